-- What the loops that search a clause have passed, the first literal that a test finds, and what the first rule of figure 5 leaves. Assumes nothing.
use Prim.Native.Nat.{ℕ, suc, ◌+◌, ◌≤◌, ◌<◌}
use native.Mathlib.Numerals.{add-one}
use native.Mathlib.Omega.{arith}
use mathlib.Core.Path.{◌≡◌, refl, sym, ap, subst, ◌∙◌}
use mathlib.Core.Bool.{Bool, true, false, not, ◌&&◌, cond}
use mathlib.Core.List.{List, [], ◌∷◌, ◌++◌, map, append-nil, Memᴰ}
use lib.ListN.{length, get_or, take, drop, set, length-set, drop_of_length-le}
use lib.Seq.{drop-cons, take-suc-set, append_snoc}
use lib.Dec.{eqb}
use lib.IntN.{ℤ, pos, neg_ℤ, ◌-ℤ◌}
use mir.Syntax.{w32}
use mir.Val.{of_z, to_z}
use borrow.Author.Tests.{eq-eqb, ne_eqb}
use Rattle.std.specs.Prelude.{Option, Some, None, unwrap_or, is_some}
use Rattle.std.specs.List.{find}
use Rattle.std.proofs.lemmas.Option.{none-some}
use Rattle.base.proofs.Booleans.{clash}
use Rattle.base.specs.Lists.{any, filter}
use Rattle.base.proofs.Lists.{filter_in, filter_out, any_map, each_mem}
use Rattle.literal.specs.Literals.{Literal, Small, slot_of}
use Rattle.literal.proofs.Signed.{back, neg_is, abs_neg}
use Rattle.clause_slots.proofs.Mapping.{literal_small}
use Rattle.walk.specs.Walk.{Stamps}
use Rattle.stamp_columns.specs.Columns.{columns}
use Rattle.hidden.specs.Hidden.{holds, unhidden}
use Rattle.clause_slots.specs.Stamped.{Lits}
use Rattle.chains.specs.Chains.{ends}
use Rattle.explain.specs.Reasons.{holds_other, first_held, first_holder, long_ends, pair_ends, no_ends, drop_ends, ends_in}

-- ---- literals in locals

module _ {z : ℤ} (L : Literal 1024 z) where
  pub stored_is : to_z w32 (of_z w32 z) ≡ z
  stored_is = back (literal_small L)

  pub stored : Literal 1024 (to_z w32 (of_z w32 z))
  stored = subst (Literal 1024) (sym stored_is) L

  pub turned_is : to_z w32 (of_z w32 (pos 0 -ℤ to_z w32 (of_z w32 z))) ≡ neg_ℤ z
  turned_is = neg_is (literal_small L)

  pub turned : Literal 1024 (to_z w32 (of_z w32 (pos 0 -ℤ to_z w32 (of_z w32 z))))
  turned = subst (Literal 1024) (sym turned_is) (record { above = omega (arith, abs_neg z, L.above); within = omega (arith, abs_neg z, L.within) })

-- of v variables
pub literal_of : {v : ℕ} {z : ℤ} → v ≤ 1024 → Literal v z → Literal 1024 z
literal_of few L = record { above = L.above; within = omega (arith, few, L.within) }

-- ---- another literal that is held

pub other_same : (σ : Stamps) (l m : ℤ) → slot_of m ≡ slot_of l → false ≡ holds_other σ l m
unfolding holds_other
other_same σ l m e = ap (λ (b : Bool). not b && holds σ (slot_of l) (slot_of m)) (sym (eq-eqb (slot_of m) (slot_of l) e))

pub other_differs : (σ : Stamps) (l m : ℤ) → (slot_of m ≡ slot_of l → ⊥) → holds σ (slot_of l) (slot_of m) ≡ holds_other σ l m
unfolding holds_other
other_differs σ l m h = ap (λ (b : Bool). not b && holds σ (slot_of l) (slot_of m)) (sym (ne_eqb (slot_of m) (slot_of l) h))

-- ---- a loop that passes the front of a clause without effect on what is sought, whatever the links are

pub record Passing {A : Type 0} (f : List ℤ → List ℤ → A) (C : List ℤ) (i : ℕ) : Type 0 where
  pub within : i ≤ length C
  pub left : (links : List ℤ) → f links C ≡ f links (drop i C)

pub passing_none : {A : Type 0} (f : List ℤ → List ℤ → A) (C : List ℤ) → Passing f C 0
passing_none f C = record { within = omega arith; left = λ links. refl }

module _ {A : Type 0} {f : List ℤ → List ℤ → A} {C : List ℤ} {i : ℕ} (P : Passing f C i) where
  -- the next literal
  pub passing_at : i < length C → (links : List ℤ) → f links C ≡ f links (get_or C i (pos 0) ∷ drop (suc i) C)
  passing_at lt links = P.left links ∙ ap (f links) (drop-cons C i (pos 0) lt)

  pub passing_next : i < length C → ((links : List ℤ) → f links (get_or C i (pos 0) ∷ drop (suc i) C) ≡ f links (drop (suc i) C)) → Passing f C (i + 1)
  passing_next lt e = record { within = omega arith; left = λ links. passing_at lt links ∙ e links ∙ ap (λ (k : ℕ). f links (drop k C)) (sym (add-one i)) }

  pub passing_done : length C ≤ i → (links : List ℤ) → f links C ≡ f links []
  passing_done h links = P.left links ∙ ap (f links) (drop_of_length-le C h)

-- ---- the first literal that passes a test

pub find_here : (test : ℤ → Bool) (l : ℤ) (ls : List ℤ) → test l ≡ true → find test (l ∷ ls) ≡ Some l
find_here test l ls e = rw (e, find)

pub find_next : (test : ℤ → Bool) (l : ℤ) (ls : List ℤ) → test l ≡ false → find test (l ∷ ls) ≡ find test ls
find_next test l ls e = rw (e, find)

-- it is found exactly if a literal passes
pub found_any : (test : ℤ → Bool) (C : List ℤ) {x : ℤ} → find test C ≡ Some x → any test C ≡ true
unfolding any
found_any test [] e = absurd (none-some _ e)
found_any test (l ∷ C) {x} e = go (found_any test C) (test l) e
  where
    go : (find test C ≡ Some x → any test C ≡ true) → (b : Bool) → ◌≡◌ {A = Option ℤ} (cond b (Some l) (find test C)) (Some x) → ◌≡◌ {A = Bool} (elim b [ true ↦ true | false ↦ any test C ]) true
    go rest true e = refl
    go rest false e = rest e

pub found_none : (test : ℤ → Bool) (C : List ℤ) → find test C ≡ None → any test C ≡ false
unfolding any
found_none test [] e = refl
found_none test (l ∷ C) e = go (found_none test C) (test l) e
  where
    go : (find test C ≡ None → any test C ≡ false) → (b : Bool) → ◌≡◌ {A = Option ℤ} (cond b (Some l) (find test C)) None → ◌≡◌ {A = Bool} (elim b [ true ↦ true | false ↦ any test C ]) false
    go rest true e = absurd (none-some _ (sym e))
    go rest false e = rest e

-- what the answer of `is_none` says
pub none_told : (o : Option ℤ) {b : Bool} → is_some o ≡ not b → b ≡ true → o ≡ None
none_told None e t = refl
none_told (Some x) e t = clash refl (e ∙ ap not t)

pub some_told : (o : Option ℤ) {b : Bool} → is_some o ≡ not b → b ≡ false → (x : ℤ) × (o ≡ Some x)
some_told None e t = clash (e ∙ ap not t) refl
some_told (Some x) e t = (x, refl)

-- it is an i32 that has a complement
pub found_small : (test : ℤ → Bool) (C : List ℤ) → ((l : ℤ) → Memᴰ l C → Small l) → Small (unwrap_or (find test C) (pos 0))
found_small test [] each = record { small = omega arith }
found_small test (l ∷ C) each = go (found_small test C (λ k m. each k (Memᴰ.tail m))) (test l)
  where
    go : Small (unwrap_or (find test C) (pos 0)) → (b : Bool) → Small (unwrap_or (cond b (Some l) (find test C)) (pos 0))
    go rest true = each l (Memᴰ.head refl)
    go rest false = rest

pub lits_small : {C : List ℤ} → Lits C → (l : ℤ) → Memᴰ l C → Small l
lits_small {C} L l m = literal_small (each_mem (Literal 1024) C (pos 0) L.each l m)

-- ---- by what was found

pub ends_held : (σ : Stamps) (C rest : List ℤ) (l m : ℤ) → first_held σ C l ≡ Some m → ends_in σ C rest l ≡ ends l m
ends_held σ C rest l m e = rw (e, ends_in)

pub ends_free : (σ : Stamps) (C rest : List ℤ) (l : ℤ) → first_held σ C l ≡ None → ends_in σ C rest l ≡ ends (neg_ℤ (unwrap_or (first_holder σ rest l) (pos 0))) (neg_ℤ l)
ends_free σ C rest l e = rw (e, ends_in)

-- ---- a dropped clause

pub long_here : (σ : Stamps) (C : List ℤ) (a b : ℤ) (more : List ℤ) → first_held σ C (neg_ℤ a) ≡ Some b → long_ends σ C (a ∷ more) ≡ Some (ends (neg_ℤ a) b)
unfolding long_ends
long_here σ C a b more e = rw (e, long_ends)

pub long_next : (σ : Stamps) (C : List ℤ) (a : ℤ) (more : List ℤ) → first_held σ C (neg_ℤ a) ≡ None → long_ends σ C (a ∷ more) ≡ long_ends σ C more
unfolding long_ends
long_next σ C a more e = rw (e, long_ends)

pub long_none : (σ : Stamps) (C : List ℤ) → long_ends σ C [] ≡ None
unfolding long_ends
long_none σ C = refl

pub drop_pair : (σ : Stamps) (C : List ℤ) → length C ≡ 2 → pair_ends σ (get_or C 0 (pos 0)) (get_or C 1 (pos 0)) ≡ drop_ends σ C
unfolding drop_ends
drop_pair σ [] h = absurd (omega arith)
drop_pair σ (a ∷ []) h = absurd (omega arith)
drop_pair σ (a ∷ b ∷ []) h = refl
drop_pair σ (a ∷ b ∷ c ∷ C) h = absurd (omega arith)

pub drop_long : (σ : Stamps) (C : List ℤ) → (length C ≡ 2 → ⊥) → unwrap_or (long_ends σ C C) no_ends ≡ drop_ends σ C
unfolding drop_ends
drop_long σ [] h = refl
drop_long σ (a ∷ []) h = refl
drop_long σ (a ∷ b ∷ []) h = absurd (h refl)
drop_long σ (a ∷ b ∷ c ∷ C) h = refl

-- ---- what the first rule leaves

-- whether l stays
abbrev pub unheld : Stamps → List ℤ → ℤ → Bool
unheld σ C l = not (any (λ m. not (eqb m (slot_of l)) && holds σ (slot_of l) m) (map slot_of C))

held_any : (σ : Stamps) (C : List ℤ) (l : ℤ) → any (λ m. not (eqb m (slot_of l)) && holds σ (slot_of l) m) (map slot_of C) ≡ any (holds_other σ l) C
unfolding holds_other
held_any σ C l = any_map slot_of (λ m. not (eqb m (slot_of l)) && holds σ (slot_of l) m) C

-- `rest` has the first n literals of part C that stay, of the first i
pub record Keeping (times : List ℕ) (C rest : List ℤ) (n i : ℕ) : Type 0 where
  pub behind : n ≤ i
  pub within : i ≤ length C
  pub same : length rest ≡ length C
  pub split : (links : List ℤ) → unhidden slot_of (holds (columns times links)) C ≡ take n rest ++ filter (unheld (columns times links) C) (drop i C)

pub keeping_none : (times : List ℕ) (C rest : List ℤ) → length rest ≡ length C → Keeping times C rest 0 0
unfolding unhidden
keeping_none times C rest e = record { behind = omega arith; within = omega arith; same = e; split = λ links. refl }

module _ {times : List ℕ} {C rest : List ℤ} {n i : ℕ} (K : Keeping times C rest n i) (lt : i < length C) where
  pub keeping_stays : ((links : List ℤ) → first_held (columns times links) C (get_or C i (pos 0)) ≡ None) → Keeping times C (set rest n (get_or C i (pos 0))) (n + 1) (i + 1)
  keeping_stays e = record {
    behind = omega (arith, K.behind);
    within = omega arith;
    same = simp length-set K.same;
    split = λ links.
        let none = held_any (columns times links) C (get_or C i (pos 0)) ∙ found_none (holds_other (columns times links) (get_or C i (pos 0))) C (e links) in
        K.split links
        ∙ ap (λ (ls : List ℤ). take n rest ++ ls) (ap (filter (unheld (columns times links) C)) (drop-cons C i (pos 0) lt) ∙ filter_in (unheld (columns times links) C) (get_or C i (pos 0)) (drop (suc i) C) (ap not none))
        ∙ sym (append_snoc (take n rest) (get_or C i (pos 0)) (filter (unheld (columns times links) C) (drop (suc i) C)))
        ∙ ap (λ (ls : List ℤ). ls ++ filter (unheld (columns times links) C) (drop (suc i) C)) (sym (take-suc-set rest n (get_or C i (pos 0)) (omega (arith, K.behind, K.same))))
        ∙ (λ z. take (sym (add-one n) z) (set rest n (get_or C i (pos 0))) ++ filter (unheld (columns times links) C) (drop (sym (add-one i) z) C));
  }

  pub keeping_goes : ((links : List ℤ) → (m : ℤ) × (first_held (columns times links) C (get_or C i (pos 0)) ≡ Some m)) → Keeping times C rest n (i + 1)
  keeping_goes h = record {
    behind = omega (arith, K.behind);
    within = omega arith;
    same = K.same;
    split = λ links.
        let some = held_any (columns times links) C (get_or C i (pos 0)) ∙ found_any (holds_other (columns times links) (get_or C i (pos 0))) C (h links).1 in
        K.split links
        ∙ ap (λ (ls : List ℤ). take n rest ++ ls) (ap (filter (unheld (columns times links) C)) (drop-cons C i (pos 0) lt) ∙ filter_out (unheld (columns times links) C) (get_or C i (pos 0)) (drop (suc i) C) (ap not some) ∙ ap (λ (k : ℕ). filter (unheld (columns times links) C) (drop k C)) (sym (add-one i)));
  }

pub keeping_done : {times : List ℕ} {C rest : List ℤ} {n i : ℕ} → Keeping times C rest n i → length C ≤ i → (n ≤ length C) × ((links : List ℤ) → take n rest ≡ unhidden slot_of (holds (columns times links)) C)
unfolding filter
keeping_done {times} {C} {rest} {n} {i} K h = (
  omega (arith, K.behind, K.within),
  λ links. sym (K.split links ∙ ap (λ (ls : List ℤ). take n rest ++ filter (unheld (columns times links) C) ls) (drop_of_length-le C h) ∙ append-nil (take n rest)),
)
