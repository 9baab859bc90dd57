-- Laws of the list functions: what a test that is known does to `filter`, `any` and `absent`, what is in them, and parts of a list. Assumes nothing.
use Prim.Native.Nat.{ℕ, zero, suc, ◌+◌, ◌≤◌, ◌<◌}
use native.Mathlib.Nat.{le_of_suc-le-suc, not-suc-le-zero}
use native.Mathlib.Numerals.{add-one}
use native.Mathlib.Omega.{arith}
use mathlib.Core.Path.{◌≡◌, refl, sym, ap, subst, ◌∙◌}
use mathlib.Core.Bool.{Bool, true, false, ◌&&◌, ◌||◌}
use mathlib.Core.Logic.{◌⊎◌, inl, inr, ⊎_elim}
use mathlib.Core.List.Memᴰ
use mathlib.Core.List.{List, [], ◌∷◌, ◌++◌, map, Memᴰ, Sublistᴰ}
use lib.ListN.{length, get_or, take, drop, replicate, length-replicate}
use lib.Seq.{drop-cons, drop-length, get_or-take}
use borrow.Author.Tests.{eq-eqb, ne_eqb}
use Rattle.std.specs.List.{list_any}
use Rattle.base.specs.Decide.{same_or}
use Rattle.base.specs.Lists.{any, filter, absent, numbers}
use Rattle.base.proofs.Booleans.{clash}

-- ---- no element is q

pub absent_hit : (q x : ℕ) (xs : List ℕ) → x ≡ q → absent q (x ∷ xs) ≡ false
unfolding absent
absent_hit q x xs e = rw (eq-eqb x q e, absent)

pub absent_miss : (q x : ℕ) (xs : List ℕ) → (x ≡ q → ⊥) → absent q (x ∷ xs) ≡ absent q xs
unfolding absent
absent_miss q x xs n = rw (ne_eqb x q n, absent)

pub absent_not : (q : ℕ) (l : List ℕ) → absent q l ≡ true → Memᴰ q l → ⊥
unfolding absent
absent_not q [] e m = Memᴰ.not-nil m
absent_not q (x ∷ xs) e m =
    ⊎_elim
    (λ (s : x ≡ q). let z : ◌≡◌ {A = ℕ} 0 1 = cc (absent_hit q x xs s) in omega arith)
    (λ (d : x ≡ q → ⊥). ⊎_elim (λ h. d (sym h)) (λ k. absent_not q xs (sym (absent_miss q x xs d) ∙ e) k) (Memᴰ.cases_cons m))
    (same_or x q)

pub absent_is : (q : ℕ) (l : List ℕ) → (Memᴰ q l → ⊥) → absent q l ≡ true
unfolding absent
absent_is q [] not = refl
absent_is q (x ∷ xs) not = absent_miss q x xs (λ e. not (Memᴰ.head (sym e))) ∙ absent_is q xs (λ m. not (Memᴰ.tail m))

-- ---- one element more in front

pub filter_in : {A : Type 0} (p : A → Bool) (x : A) (xs : List A) → p x ≡ true → filter p (x ∷ xs) ≡ x ∷ filter p xs
unfolding filter
filter_in p x xs e = rw (e, filter)

pub filter_out : {A : Type 0} (p : A → Bool) (x : A) (xs : List A) → p x ≡ false → filter p (x ∷ xs) ≡ filter p xs
unfolding filter
filter_out p x xs e = rw (e, filter)

pub any_here : {A : Type 0} (p : A → Bool) (x : A) (xs : List A) → p x ≡ true → any p (x ∷ xs) ≡ true
unfolding any
any_here p x xs e = rw (e, any)

pub any_next : {A : Type 0} (p : A → Bool) (x : A) (xs : List A) → p x ≡ false → any p (x ∷ xs) ≡ any p xs
unfolding any
any_next p x xs e = rw (e, any)

-- ---- the test of some element, as the library names it

pub any_is : {A : Type 0} (p : A → Bool) (xs : List A) → any p xs ≡ list_any p xs
unfolding any
any_is p [] = refl
any_is {A} p (x ∷ xs) = go (any_is p xs) (p x)
  where
    go : any p xs ≡ list_any p xs → (b : Bool) → ◌≡◌ {A = Bool} (elim b [ true ↦ true | false ↦ any p xs ]) (b || list_any p xs)
    go e true = refl
    go e false = e

-- ---- what a filter leaves

pub mem_filter : {A : Type 0} (p : A → Bool) (l : List A) {q : A} → Memᴰ q (filter p l) → Memᴰ q l
unfolding filter
mem_filter p [] m = m
mem_filter {A} p (x ∷ xs) {q} m = go (λ t. mem_filter p xs t) (p x) refl
  where
    go : (Memᴰ q (filter p xs) → Memᴰ q xs) → (b : Bool) → p x ≡ b → Memᴰ q (x ∷ xs)
    go ih true e = ⊎_elim (λ h. Memᴰ.head h) (λ t. Memᴰ.tail (ih t)) (Memᴰ.cases_cons (subst (Memᴰ q) (filter_in p x xs e) m))
    go ih false e = Memᴰ.tail (ih (subst (Memᴰ q) (filter_out p x xs e) m))

-- an element that passes the test stays
pub in_filter : {A : Type 0} (p : A → Bool) (xs : List A) {x : A} → Memᴰ x xs → p x ≡ true → Memᴰ x (filter p xs)
unfolding filter
in_filter p [] m h = absurd (Memᴰ.not-nil m)
in_filter {A} p (y ∷ ys) {x} m h = go (λ t. in_filter p ys t h) (p y) refl (Memᴰ.cases_cons m)
  where
    go : (Memᴰ x ys → Memᴰ x (filter p ys)) → (b : Bool) → p y ≡ b → (x ≡ y) ⊎ Memᴰ x ys → Memᴰ x (elim b [ true ↦ y ∷ filter p ys | false ↦ filter p ys ])
    go rest true e (inl k) = Memᴰ.head k
    go rest true e (inr t) = Memᴰ.tail (rest t)
    go rest false e (inl k) = clash (sym (ap p k) ∙ h) e
    go rest false e (inr t) = rest t

pub filter_append : {A : Type 0} (p : A → Bool) (xs ys : List A) → filter p (xs ++ ys) ≡ filter p xs ++ filter p ys
unfolding filter
filter_append p [] ys = refl
filter_append {A} p (x ∷ xs) ys = go (filter_append p xs ys) (p x)
  where
    go : filter p (xs ++ ys) ≡ filter p xs ++ filter p ys → (b : Bool)
        → elim b as (λ z. List A) [ true ↦ x ∷ filter p (xs ++ ys) | false ↦ filter p (xs ++ ys) ] ≡ elim b as (λ z. List A) [ true ↦ x ∷ filter p xs | false ↦ filter p xs ] ++ filter p ys
    go e true = ap (λ (l : List A). x ∷ l) e
    go e false = e

-- what a filter leaves is a subsequence
pub filter_sub : {A : Type 0} (p : A → Bool) (xs : List A) → Sublistᴰ (filter p xs) xs
unfolding filter
filter_sub p [] = Sublistᴰ.slnil
filter_sub {A} p (y ∷ ys) = go (filter_sub p ys) (p y)
  where
    go : Sublistᴰ (filter p ys) ys → (b : Bool) → Sublistᴰ (elim b [ true ↦ y ∷ filter p ys | false ↦ filter p ys ]) (y ∷ ys)
    go rest true = Sublistᴰ.cons-cons refl rest
    go rest false = Sublistᴰ.cons rest

-- tests that agree on the list leave the same
pub filter_same : {A : Type 0} (p q : A → Bool) (xs : List A) → ((x : A) → Memᴰ x xs → p x ≡ q x) → filter p xs ≡ filter q xs
unfolding filter
filter_same p q [] h = refl
filter_same {A} p q (y ∷ ys) h = go (filter_same p q ys (λ x t. h x (Memᴰ.tail t))) (p y) (q y) (h y (Memᴰ.head refl))
  where
    go : filter p ys ≡ filter q ys → (b c : Bool) → b ≡ c → ◌≡◌ {A = List A} (elim b [ true ↦ y ∷ filter p ys | false ↦ filter p ys ]) (elim c [ true ↦ y ∷ filter q ys | false ↦ filter q ys ])
    go rest true true e = ap (λ (l : List A). y ∷ l) rest
    go rest true false e = clash refl e
    go rest false true e = clash refl (sym e)
    go rest false false e = rest

-- a filter by the images, then the images, is the images filtered
pub filter_map : {A B : Type 0} (f : A → B) (p : B → Bool) (C : List A) → map f (filter (λ l. p (f l)) C) ≡ filter p (map f C)
unfolding filter
filter_map f p [] = refl
filter_map {A} {B} f p (x ∷ C) = go (filter_map f p C) (p (f x))
  where
    go : map f (filter (λ l. p (f l)) C) ≡ filter p (map f C) → (b : Bool)
        → map f (elim b [ true ↦ x ∷ filter (λ l. p (f l)) C | false ↦ filter (λ l. p (f l)) C ]) ≡ elim b [ true ↦ f x ∷ filter p (map f C) | false ↦ filter p (map f C) ]
    go rest true = ap (λ (l : List B). f x ∷ l) rest
    go rest false = rest

pub map_self : {A : Type 0} (C : List A) → map (λ s. s) C ≡ C
map_self [] = refl
map_self {A} (x ∷ C) = ap (λ (l : List A). x ∷ l) (map_self C)

-- a subsequence has no other elements
pub sub_mem : {A : Type 0} {D C : List A} {x : A} → Sublistᴰ D C → Memᴰ x D → Memᴰ x C
sub_mem Sublistᴰ.slnil m = m
sub_mem (Sublistᴰ.cons s) m = Memᴰ.tail (sub_mem s m)
sub_mem (Sublistᴰ.cons-cons e s) m = ⊎_elim (λ k. Memᴰ.head (k ∙ e)) (λ t. Memᴰ.tail (sub_mem s t)) (Memᴰ.cases_cons m)

pub sub_length : {A : Type 0} {D C : List A} → Sublistᴰ D C → length D ≤ length C
sub_length Sublistᴰ.slnil = omega arith
sub_length (Sublistᴰ.cons s) = omega (arith, sub_length s)
sub_length (Sublistᴰ.cons-cons e s) = omega (arith, sub_length s)

-- a subsequence as long as the whole is the whole
pub sub_full : {A : Type 0} {D C : List A} → Sublistᴰ D C → length C ≤ length D → D ≡ C
sub_full Sublistᴰ.slnil h = refl
sub_full (Sublistᴰ.cons s) h = absurd (omega (arith, h, sub_length s))
sub_full (Sublistᴰ.cons-cons e s) h = λ i. e i ∷ sub_full s (omega (arith, h)) i

pub filter_all : {A : Type 0} (C : List A) → filter (λ l. true) C ≡ C
unfolding filter
filter_all [] = refl
filter_all {A} (x ∷ C) = ap (λ (l : List A). x ∷ l) (filter_all C)

-- a filter of what a filter leaves
pub filter_filter : {A : Type 0} (p q : A → Bool) (C : List A) → filter p (filter q C) ≡ filter (λ l. q l && p l) C
unfolding filter
filter_filter p q [] = refl
filter_filter {A} p q (x ∷ C) = go (filter_filter p q C) (q x) (p x) refl
  where
    go : filter p (filter q C) ≡ filter (λ l. q l && p l) C → (b c : Bool) → p x ≡ c
        → filter p (elim b [ true ↦ x ∷ filter q C | false ↦ filter q C ]) ≡ elim (b && c) [ true ↦ x ∷ filter (λ l. q l && p l) C | false ↦ filter (λ l. q l && p l) C ]
    go rest true true e = rw (e, filter) (ap (λ (l : List A). x ∷ l) rest)
    go rest true false e = rw (e, filter) rest
    go rest false c e = rest

-- ---- some element passes the test

pub any_out : {A : Type 0} (p : A → Bool) (xs : List A) → any p xs ≡ true → (x : A) × Memᴰ x xs × (p x ≡ true)
unfolding any
any_out p [] h = clash h refl
any_out {A} p (y ∷ ys) h = go (λ t. any_out p ys t) (p y) refl h
  where
    go : (any p ys ≡ true → (x : A) × Memᴰ x ys × (p x ≡ true)) → (b : Bool) → p y ≡ b → ◌≡◌ {A = Bool} (elim b [ true ↦ true | false ↦ any p ys ]) true → (x : A) × Memᴰ x (y ∷ ys) × (p x ≡ true)
    go rest true e k = (y, Memᴰ.head refl, e)
    go rest false e k = let r = rest k in (r.0, Memᴰ.tail r.1, r.2)

pub any_in : {A : Type 0} (p : A → Bool) (xs : List A) {x : A} → Memᴰ x xs → p x ≡ true → any p xs ≡ true
unfolding any
any_in p [] m h = absurd (Memᴰ.not-nil m)
any_in {A} p (y ∷ ys) {x} m h = go (λ t. any_in p ys t h) (p y) refl (Memᴰ.cases_cons m)
  where
    go : (Memᴰ x ys → any p ys ≡ true) → (b : Bool) → p y ≡ b → (x ≡ y) ⊎ Memᴰ x ys → ◌≡◌ {A = Bool} (elim b [ true ↦ true | false ↦ any p ys ]) true
    go rest true e k = refl
    go rest false e (inl k) = clash (sym (ap p k) ∙ h) e
    go rest false e (inr t) = rest t

-- tests that agree on the list
pub any_same : {A : Type 0} (p q : A → Bool) (xs : List A) → ((x : A) → Memᴰ x xs → p x ≡ q x) → any p xs ≡ any q xs
unfolding any
any_same p q [] h = refl
any_same p q (x ∷ xs) h = λ i. elim (h x (Memᴰ.head refl) i) [ true ↦ true | false ↦ any_same p q xs (λ y m. h y (Memᴰ.tail m)) i ]

-- some element of a filtered or mapped list
pub any_filter : {A : Type 0} (p q : A → Bool) (xs : List A) → any q (filter p xs) ≡ any (λ x. p x && q x) xs
unfolding any filter
any_filter p q [] = refl
any_filter {A} p q (x ∷ xs) = go (any_filter p q xs) (p x) (q x) refl
  where
    go : any q (filter p xs) ≡ any (λ x. p x && q x) xs → (a b : Bool) → q x ≡ b
        → any q (elim a [ true ↦ x ∷ filter p xs | false ↦ filter p xs ]) ≡ elim (a && b) [ true ↦ true | false ↦ any (λ x. p x && q x) xs ]
    go r true true e = rw (e, any)
    go r true false e = rw (e, any) r
    go r false b e = r

pub any_map : {A B : Type 0} (f : A → B) (p : B → Bool) (xs : List A) → any p (map f xs) ≡ any (λ x. p (f x)) xs
unfolding any
any_map f p [] = refl
any_map f p (x ∷ xs) = ap (λ (b : Bool). elim (p (f x)) [ true ↦ true | false ↦ b ]) (any_map f p xs)

pub no_any : {A : Type 0} (xs : List A) → any (λ m. false) xs ≡ false
unfolding any
no_any [] = refl
no_any (x ∷ xs) = no_any xs

-- ---- elements by their places

pub get_d_mem : {A : Type 0} (l : List A) (i : ℕ) (d : A) → i < length l → Memᴰ (get_or l i d) l
get_d_mem [] i d lt = absurd (not-suc-le-zero lt)
get_d_mem (x ∷ l) zero d lt = Memᴰ.head refl
get_d_mem (x ∷ l) (suc i) d lt = Memᴰ.tail (get_d_mem l i d (le_of_suc-le-suc lt))

pub mem_get_d : {A : Type 0} (l : List A) (d : A) {x : A} → Memᴰ x l → (i : ℕ) × (i < length l) × (get_or l i d ≡ x)
mem_get_d [] d m = absurd (Memᴰ.not-nil m)
mem_get_d (y ∷ l) d m = ⊎_elim (λ e. (0, omega arith, sym e)) (λ t. let r = mem_get_d l d t in (suc r.0, omega (arith, r.1), r.2)) (Memᴰ.cases_cons m)

-- what holds at each place holds of each element
pub each_mem : {A : Type 0} (P : A → Type 0) (l : List A) (d : A) → ((i : ℕ) → i < length l → P (get_or l i d)) → (x : A) → Memᴰ x l → P x
each_mem P l d each x m = let r = mem_get_d l d m in subst P r.2 (each r.0 r.1)

-- ---- parts of a list

pub mem_take : {A : Type 0} (k : ℕ) (xs : List A) {y : A} → Memᴰ y (take k xs) → Memᴰ y xs
mem_take zero xs m = absurd (Memᴰ.not-nil m)
mem_take (suc k) [] m = m
mem_take (suc k) (x ∷ xs) m = ⊎_elim (λ e. Memᴰ.head e) (λ t. Memᴰ.tail (mem_take k xs t)) (Memᴰ.cases_cons m)

pub mem_drop : {A : Type 0} (k : ℕ) (xs : List A) {y : A} → Memᴰ y (drop k xs) → Memᴰ y xs
mem_drop zero xs m = m
mem_drop (suc k) [] m = m
mem_drop (suc k) (x ∷ xs) m = Memᴰ.tail (mem_drop k xs m)

-- a list from an index on, where the code's next index is i + 1
pub drop_step : (l : List ℕ) (i : ℕ) → i < length l → drop i l ≡ get_or l i 0 ∷ drop (i + 1) l
drop_step l i lt = drop-cons l i 0 lt ∙ ap (λ (k : ℕ). get_or l i 0 ∷ drop k l) (sym (add-one i))

pub drop_done : (l : List ℕ) (i : ℕ) → i ≤ length l → length l ≤ i → drop i l ≡ []
drop_done l i a b = ap (λ (k : ℕ). drop k l) (let e : i ≡ length l = omega arith in e) ∙ drop-length l

-- lists with the same front have the same elements there
pub take_same : {A : Type 0} (i k : ℕ) (xs ys : List A) (d : A) → k < i → take i xs ≡ take i ys → get_or xs k d ≡ get_or ys k d
take_same {A} i k xs ys d lt e = sym (get_or-take i xs k d lt) ∙ ap (λ (l : List A). get_or l k d) e ∙ get_or-take i ys k d lt

pub no_length : {A : Type 0} (l : List A) → length l ≡ 0 → l ≡ []
no_length [] e = refl
no_length (y ∷ l) e = absurd (omega arith)

-- what stands at a place does not depend on what is read past the end
pub get_d_any : {A : Type 0} (l : List A) (i : ℕ) (a b : A) → i < length l → get_or l i a ≡ get_or l i b
get_d_any [] i a b lt = absurd (omega arith)
get_d_any (x ∷ l) zero a b lt = refl
get_d_any (x ∷ l) (suc i) a b lt = get_d_any l i a b (omega arith)

-- behind the end
pub get_d_beyond : {A : Type 0} (l : List A) (i : ℕ) (d : A) → length l ≤ i → get_or l i d ≡ d
get_d_beyond [] i d h = refl
get_d_beyond (x ∷ l) zero d h = absurd (omega (arith, h))
get_d_beyond (x ∷ l) (suc i) d h = get_d_beyond l i d (omega (arith, h))

-- an entry that is not 0 stands in the list
pub get_d_inside : (l : List ℕ) (i : ℕ) → 0 < get_or l i 0 → i < length l
get_d_inside [] i h = absurd (omega arith)
get_d_inside (x ∷ l) zero h = omega arith
get_d_inside (x ∷ l) (suc i) h = let r = get_d_inside l i h in omega arith

-- ---- a list of one element, repeated

pub get_d_filled : {A : Type 0} (n i : ℕ) (a : A) → get_or (replicate n a) i a ≡ a
get_d_filled zero i a = refl
get_d_filled (suc n) zero a = refl
get_d_filled (suc n) (suc i) a = get_d_filled n i a

pub get_d_zeros : (n i : ℕ) → get_or {A = ℕ} (replicate n 0) i 0 ≡ 0
get_d_zeros n i = get_d_filled {A = ℕ} n i 0

pub take_filled : {A : Type 0} (n m : ℕ) (a : A) → n ≤ m → take n (replicate m a) ≡ replicate n a
take_filled zero m a h = refl
take_filled (suc n) zero a h = absurd (not-suc-le-zero h)
take_filled {A} (suc n) (suc m) a h = ap (λ (l : List A). a ∷ l) (take_filled n m a (le_of_suc-le-suc h))

pub take_zeros : (n m : ℕ) → n ≤ m → take n (replicate {A = ℕ} m 0) ≡ replicate n 0
take_zeros n m h = take_filled {A = ℕ} n m 0 h

pub front_filled : {A : Type 0} (n m : ℕ) (a : A) → n ≤ m → length (take n (replicate m a)) ≡ n
front_filled n m a h = ap length (take_filled n m a h) ∙ length-replicate n a

pub front_zeros : (n m : ℕ) → n ≤ m → length (take n (replicate {A = ℕ} m 0)) ≡ n
front_zeros n m h = front_filled {A = ℕ} n m 0 h

-- ---- numbers in order

pub numbers_snoc : (k n : ℕ) → numbers k (suc n) ≡ numbers k n ++ ((k + n) ∷ [])
unfolding numbers
numbers_snoc k zero = ap (λ (i : ℕ). i ∷ []) (let e : k ≡ k + 0 = omega arith in e)
numbers_snoc k (suc n) = ap (λ (l : List ℕ). k ∷ l) (numbers_snoc (suc k) n ∙ ap (λ (i : ℕ). numbers (suc k) n ++ (i ∷ [])) (let e : suc k + n ≡ k + suc n = omega arith in e))

-- ---- lists of one length with the same entries are the same

pub list_same : {A : Type 0} (d : A) (xs ys : List A) → length xs ≡ length ys → ((k : ℕ) → k < length xs → get_or xs k d ≡ get_or ys k d) → xs ≡ ys
list_same d [] [] e h = refl
list_same d [] (y ∷ ys) e h = absurd (omega (arith, e))
list_same d (x ∷ xs) [] e h = absurd (omega (arith, e))
list_same d (x ∷ xs) (y ∷ ys) e h = λ z. h 0 (omega arith) z ∷ list_same d xs ys (let q : length xs ≡ length ys = omega (arith, e) in q) (λ k l. h (suc k) (omega (arith, l))) z
