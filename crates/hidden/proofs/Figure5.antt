-- The printed loops of figure 5 give the paper's two filters.
-- One law of the loop serves both: what the loop takes out is what has, earlier in the list, an element that it ends the wrong side of. Assumes nothing.
use Prim.Native.Nat.{ℕ, ◌≤◌}
use native.Mathlib.Omega.{arith}
use mathlib.Core.Path.{◌≡◌, refl, sym, ap, subst, ◌∙◌}
use mathlib.Core.Bool.{Bool, true, false, not, ◌&&◌, ◌||◌, or-true}
use mathlib.Core.Logic.{◌⊎◌, inl, inr, ⊎_elim}
use mathlib.Core.List.Memᴰ
use mathlib.Core.List.{List, [], ◌∷◌, map, reverse, reverse_aux, Memᴰ}
use lib.Dec.{eqb, ltb}
use borrow.Author.Tests.{ltb-true, ltb-false, lt-ltb, le-ltb, eqb-true, eq-eqb}
use Rattle.base.specs.Lists.{any, filter}
use Rattle.base.proofs.Booleans.{and_left, and_right, clash, both_ways, and_both, or_either, differ, differs}
use Rattle.base.proofs.Lists.{filter_same, sub_mem, any_in, any_out, filter_all, filter_filter}
use Rattle.literal.specs.Literals.{twin}
use Rattle.literal.proofs.Twins.{twin_twice, twin_eq}
use Rattle.walk.specs.Walk.{Stamps}
use Rattle.walk.specs.Forest.{discovery_at, finish_at}
use Rattle.hidden.specs.Hidden.{holds, by_discovery, unhidden, shorten, without, loop, loop_from, lines_pos, lines_neg, figure5}
use Rattle.hidden.proofs.Intervals.{Nested, Within, holds_true, true_holds, inside}
use Rattle.hidden.proofs.Sorted.{Sorted, Rising, sorted_in, sorted_out, sorted_rising}
use Rattle.hidden.proofs.Shorten.{unhidden_self, unhidden_sub}

-- ---- the loop, over any test and any order

-- a test that says which finish is worse: a strict order of which no part is left undecided
record Worse (goes : ℕ → ℕ → Bool) : Type 0 where
  never : (a : ℕ) → goes a a ≡ false
  on_from : (a b c : ℕ) → goes a b ≡ true → goes b c ≡ true → goes a c ≡ true
  down_to : (a b c : ℕ) → goes a b ≡ false → goes a c ≡ true → goes b c ≡ true

module _ (goes : ℕ → ℕ → Bool) (σ : Stamps) where
  -- does the loop take out element z?
  hit : ℕ → List ℕ → ℕ → Bool
  hit finished [] z = false
  hit finished (x ∷ xs) z = elim (goes finished (finish_at σ x)) [ true ↦ eqb z x || hit finished xs z | false ↦ hit (finish_at σ x) xs z ]

  -- the loop is a filter
  loop_filter : (literal : ℕ → ℕ) → ((x : ℕ) → literal (literal x) ≡ x) → (finished : ℕ) (xs C : List ℕ) → loop goes literal σ finished xs C ≡ filter (λ l. not (hit finished xs (literal l))) C
  unfolding loop hit without
  loop_filter literal inv finished [] C = sym (filter_all C)
  loop_filter literal inv finished (x ∷ xs) C = go (λ d B. loop_filter literal inv d xs B) (goes finished (finish_at σ x)) refl
    where
      -- l is taken out with x exactly if l's element is x
      element : (l : ℕ) → eqb l (literal x) ≡ eqb (literal l) x
      element l = both_ways _ _
          (λ h. eq-eqb (literal l) x (ap literal (eqb-true l (literal x) h) ∙ inv x))
          (λ h. eq-eqb l (literal x) (sym (inv l) ∙ ap literal (eqb-true (literal l) x h)))

      not_or : (a b : Bool) → (not a && not b) ≡ not (a || b)
      not_or true b = refl
      not_or false b = refl

      go : ((d : ℕ) (B : List ℕ) → loop goes literal σ d xs B ≡ filter (λ l. not (hit d xs (literal l))) B)
          → (b : Bool) → goes finished (finish_at σ x) ≡ b
          → ◌≡◌ {A = List ℕ} (elim b [ true ↦ loop goes literal σ finished xs (without (literal x) C) | false ↦ loop goes literal σ (finish_at σ x) xs C ])
          (filter (λ l. not (elim b [ true ↦ eqb (literal l) x || hit finished xs (literal l) | false ↦ hit (finish_at σ x) xs (literal l) ])) C)
      go rest true e =
          rest finished (without (literal x) C)
          ∙ filter_filter (λ l. not (hit finished xs (literal l))) (λ m. not (eqb m (literal x))) C
          ∙ filter_same _ _ C (λ l m. ap (λ (b : Bool). not b && not (hit finished xs (literal l))) (element l) ∙ not_or (eqb (literal l) x) (hit finished xs (literal l)))
      go rest false e = rest (finish_at σ x) C

  -- what is taken out ends the wrong side of an earlier element
  hit_has : (Ord : ℕ → ℕ → Type 0) (w : ℕ) (xs : List ℕ) (z : ℕ) → Sorted Ord (w ∷ xs) → hit (finish_at σ w) xs z ≡ true → (y : ℕ) × Memᴰ y (w ∷ xs) × Ord y z × (goes (finish_at σ y) (finish_at σ z) ≡ true)
  unfolding hit
  hit_has Ord w [] z s h = clash h refl
  hit_has Ord w (x ∷ xs) z s h = go (λ u. hit_has Ord u xs z) (goes (finish_at σ w) (finish_at σ x)) refl h
    where
      go : ((u : ℕ) → Sorted Ord (u ∷ xs) → hit (finish_at σ u) xs z ≡ true → (y : ℕ) × Memᴰ y (u ∷ xs) × Ord y z × (goes (finish_at σ y) (finish_at σ z) ≡ true))
          → (b : Bool) → goes (finish_at σ w) (finish_at σ x) ≡ b → ◌≡◌ {A = Bool} (elim b [ true ↦ eqb z x || hit (finish_at σ w) xs z | false ↦ hit (finish_at σ x) xs z ]) true
          → (y : ℕ) × Memᴰ y (w ∷ x ∷ xs) × Ord y z × (goes (finish_at σ y) (finish_at σ z) ≡ true)
      go rest true e k =
          ⊎_elim
          (λ i. let z≡x = eqb-true z x i in (w, Memᴰ.head refl, subst (Ord w) (sym z≡x) (s.0 x (Memᴰ.head refl)), ap (λ (q : ℕ). goes (finish_at σ w) (finish_at σ q)) z≡x ∙ e))
          (λ i.
          let r = rest w (λ y m. s.0 y (Memᴰ.tail m), s.1.1) i in
          (r.0, ⊎_elim (λ j. Memᴰ.head j) (λ m. Memᴰ.tail (Memᴰ.tail m)) (Memᴰ.cases_cons r.1), r.2, r.3))
          (or_either (eqb z x) (hit (finish_at σ w) xs z) k)
      go rest false e k = let r = rest x s.1 k in (r.0, Memᴰ.tail r.1, r.2, r.3)

  module _ (W : Worse goes) where
    -- `finished` only gets worse to pass
    hit_later : (finished : ℕ) (xs : List ℕ) (z : ℕ) → Memᴰ z xs → goes finished (finish_at σ z) ≡ true → hit finished xs z ≡ true
    unfolding hit
    hit_later finished [] z m h = absurd (Memᴰ.not-nil m)
    hit_later finished (x ∷ xs) z m h = go (λ d. hit_later d xs z) (goes finished (finish_at σ x)) refl (Memᴰ.cases_cons m)
      where
        go : ((d : ℕ) → Memᴰ z xs → goes d (finish_at σ z) ≡ true → hit d xs z ≡ true) → (b : Bool) → goes finished (finish_at σ x) ≡ b → (z ≡ x) ⊎ Memᴰ z xs
            → ◌≡◌ {A = Bool} (elim b [ true ↦ eqb z x || hit finished xs z | false ↦ hit (finish_at σ x) xs z ]) true
        go rest true e (inl i) = ap (λ (b : Bool). b || hit finished xs z) (eq-eqb z x i)
        go rest true e (inr t) = ap (λ (b : Bool). eqb z x || b) (rest finished t h) ∙ or-true (eqb z x)
        go rest false e (inl i) = clash (ap (λ (q : ℕ). goes finished (finish_at σ q)) (sym i) ∙ h) e
        go rest false e (inr t) = rest (finish_at σ x) t (W.down_to finished (finish_at σ x) (finish_at σ z) e h)

    -- what ends the wrong side of an earlier element is taken out
    hit_from : (Ord : ℕ → ℕ → Type 0) (finished : ℕ) (xs : List ℕ) (y z : ℕ) → Sorted Ord xs → Memᴰ y xs → Memᴰ z xs → (y ≡ z → ⊥) → (Ord z y → ⊥) → goes (finish_at σ y) (finish_at σ z) ≡ true → hit finished xs z ≡ true
    unfolding hit
    hit_from Ord finished [] y z s i j d o h = absurd (Memᴰ.not-nil i)
    hit_from Ord finished (x ∷ xs) y z s i j d o h =
        go (λ e p q. hit_from Ord e xs y z s.1 p q d o h) (goes finished (finish_at σ x)) refl (Memᴰ.cases_cons i) (Memᴰ.cases_cons j)
      where
        go : ((e : ℕ) → Memᴰ y xs → Memᴰ z xs → hit e xs z ≡ true) → (b : Bool) → goes finished (finish_at σ x) ≡ b → (y ≡ x) ⊎ Memᴰ y xs → (z ≡ x) ⊎ Memᴰ z xs
            → ◌≡◌ {A = Bool} (elim b [ true ↦ eqb z x || hit finished xs z | false ↦ hit (finish_at σ x) xs z ]) true
        go rest b e (inl p) (inl q) = absurd (d (p ∙ sym q))
        go rest b e (inr p) (inl q) = absurd (o (subst (λ (k : ℕ). Ord k y) (sym q) (s.0 y p)))
        go rest true e (inl p) (inr q) =
            ap (λ (b : Bool). eqb z x || b) (hit_later finished xs z q (W.on_from finished (finish_at σ x) (finish_at σ z) e (ap (λ (k : ℕ). goes (finish_at σ k) (finish_at σ z)) (sym p) ∙ h))) ∙ or-true (eqb z x)
        go rest false e (inl p) (inr q) = hit_later (finish_at σ x) xs z q (ap (λ (k : ℕ). goes (finish_at σ k) (finish_at σ z)) (sym p) ∙ h)
        go rest true e (inr p) (inr q) = ap (λ (b : Bool). eqb z x || b) (rest finished p q) ∙ or-true (eqb z x)
        go rest false e (inr p) (inr q) = rest (finish_at σ x) p q

    -- the first element is never taken out
    hit_first : (x : ℕ) (xs : List ℕ) (z : ℕ) → hit (finish_at σ x) (x ∷ xs) z ≡ hit (finish_at σ x) xs z
    unfolding hit
    hit_first x xs z = rw (W.never (finish_at σ x), hit)

    -- so the loop from the second element takes out what the loop from the first would
    start_filter : (literal : ℕ → ℕ) → ((x : ℕ) → literal (literal x) ≡ x) → (x : ℕ) (xs C : List ℕ) → loop_from goes literal σ (x ∷ xs) C ≡ filter (λ l. not (hit (finish_at σ x) (x ∷ xs) (literal l))) C
    unfolding loop_from
    start_filter literal inv x xs C = loop_filter literal inv (finish_at σ x) xs C ∙ filter_same _ _ C (λ l m. ap not (sym (hit_first x xs (literal l))))

    -- a loop whose wrong side means `implies` is the filter by `implies`
    loop_unhidden : (literal : ℕ → ℕ) → ((x : ℕ) → literal (literal x) ≡ x) → (Ord : ℕ → ℕ → Type 0) (implies : ℕ → ℕ → Bool) (C xs : List ℕ) → Sorted Ord xs
        → ((l : ℕ) → Memᴰ l C → Memᴰ (literal l) xs) → ((x : ℕ) → Memᴰ x xs → Memᴰ (literal x) C)
        → ((l m : ℕ) → Memᴰ l C → Memᴰ m C → Ord (literal m) (literal l) → goes (finish_at σ (literal m)) (finish_at σ (literal l)) ≡ true → (m ≡ l → ⊥) × (implies l m ≡ true))
        → ((l m : ℕ) → Memᴰ l C → Memᴰ m C → (m ≡ l → ⊥) → implies l m ≡ true → (Ord (literal l) (literal m) → ⊥) × (goes (finish_at σ (literal m)) (finish_at σ (literal l)) ≡ true))
        → loop_from goes literal σ xs C ≡ unhidden (λ s. s) implies C
    unfolding loop_from unhidden filter
    loop_unhidden literal inv Ord implies [] [] s to from there back = refl
    loop_unhidden literal inv Ord implies (c ∷ C) [] s to from there back = absurd (Memᴰ.not-nil (to c (Memᴰ.head refl)))
    loop_unhidden literal inv Ord implies C (x ∷ xs) s to from there back =
        start_filter literal inv x xs C ∙ filter_same _ _ C (λ l m. ap not (agree l m)) ∙ sym (unhidden_self implies C)
      where
        agree : (l : ℕ) → Memᴰ l C → hit (finish_at σ x) (x ∷ xs) (literal l) ≡ any (λ m. not (eqb m l) && implies l m) C
        agree l k =
            both_ways (hit (finish_at σ x) (x ∷ xs) (literal l)) (any (λ m. not (eqb m l) && implies l m) C)
            (λ h.
            let r = hit_has Ord x xs (literal l) s (sym (hit_first x xs (literal l)) ∙ h) in
            let m = literal r.0 in
            let e = inv r.0 in
            let t = there l m k (from r.0 r.1) (subst (λ (y : ℕ). Ord y (literal l)) (sym e) r.2) (ap (λ (y : ℕ). goes (finish_at σ y) (finish_at σ (literal l))) e ∙ r.3) in
            any_in (λ y. not (eqb y l) && implies l y) C (from r.0 r.1) (and_both (not (eqb m l)) (implies l m) (differs m l t.0) t.1))
            (λ h.
            let r = any_out (λ m. not (eqb m l) && implies l m) C h in
            let m = r.0 in
            let d = differ m l (and_left (not (eqb m l)) (implies l m) r.2) in
            let b = back l m k r.1 d (and_right (not (eqb m l)) (implies l m) r.2) in
            hit_from Ord (finish_at σ x) (x ∷ xs) (literal m) (literal l) s (to m r.1) (to l k) (λ e. d (sym (inv m) ∙ ap literal e ∙ inv l)) b.0 b.1)

-- ---- the two loops

less : Worse (λ a b. ltb a b)
less =
    record {
      never = λ a. le-ltb a a (omega arith);
      on_from = λ a b c h k. let p = ltb-true a b h in let q = ltb-true b c k in lt-ltb a c (omega arith);
      down_to = λ a b c h k. let p = ltb-false a b h in let q = ltb-true a c k in lt-ltb b c (omega arith);
    }

more : Worse (λ a b. ltb b a)
more =
    record {
      never = λ a. le-ltb a a (omega arith);
      on_from = λ a b c h k. let p = ltb-true b a h in let q = ltb-true c b k in lt-ltb c a (omega arith);
      down_to = λ a b c h k. let p = ltb-false b a h in let q = ltb-true c a k in lt-ltb c b (omega arith);
    }

reverse_out : (xs ys : List ℕ) {z : ℕ} → Memᴰ z (reverse_aux xs ys) → Memᴰ z xs ⊎ Memᴰ z ys
reverse_out [] ys m = inr m
reverse_out (x ∷ xs) ys m =
    ⊎_elim
    (λ t. inl (Memᴰ.tail t))
    (λ t. ⊎_elim (λ e. inl (Memᴰ.head e)) (λ u. inr u) (Memᴰ.cases_cons t))
    (reverse_out xs (x ∷ ys) m)

reverse_in : (xs ys : List ℕ) {z : ℕ} → Memᴰ z xs ⊎ Memᴰ z ys → Memᴰ z (reverse_aux xs ys)
reverse_in [] ys (inl m) = absurd (Memᴰ.not-nil m)
reverse_in [] ys (inr m) = m
reverse_in (x ∷ xs) ys (inl m) = reverse_in xs (x ∷ ys) (⊎_elim (λ e. inr (Memᴰ.head e)) (λ t. inl t) (Memᴰ.cases_cons m))
reverse_in (x ∷ xs) ys (inr m) = reverse_in xs (x ∷ ys) (inr (Memᴰ.tail m))

-- discoveries never rise along a rising list turned round
abbrev Later : Stamps → ℕ → ℕ → Type 0
Later σ x y = discovery_at σ y ≤ discovery_at σ x

falling : (σ : Stamps) (xs ys : List ℕ) → Rising σ xs → Sorted (Later σ) ys → ((x y : ℕ) → Memᴰ x xs → Memᴰ y ys → Later σ x y) → Sorted (Later σ) (reverse_aux xs ys)
falling σ [] ys r s b = s
falling σ (x ∷ xs) ys r s b =
    falling σ xs (x ∷ ys) r.1 (λ y m. b x y (Memᴰ.head refl) m, s) (λ u y i j.
    ⊎_elim (λ (e : y ≡ x). subst (Later σ u) (sym e) (r.0 u i)) (λ m. b u y (Memᴰ.tail i) m) (Memᴰ.cases_cons j))

module _ (size : ℕ) (σ : Stamps) (N : Nested size σ) where
  -- lines 1 to 4: each literal that holds another goes
  pub lines_pos_lem : (C : List ℕ) → Within size C → lines_pos σ C ≡ unhidden (λ s. s) (holds σ) C
  unfolding lines_pos
  lines_pos_lem C w =
      loop_unhidden (λ a b. ltb a b) σ less (λ l. l) (λ x. refl) (Later σ) (holds σ) C (reverse (by_discovery σ C))
      (falling σ (by_discovery σ C) [] (sorted_rising σ C) tt (λ x y i j. absurd (Memᴰ.not-nil j)))
      (λ l m. reverse_in (by_discovery σ C) [] (inl (sorted_in σ C m)))
      (λ x m. ⊎_elim (λ t. sorted_out σ C t) (λ n. absurd (Memᴰ.not-nil n)) (reverse_out (by_discovery σ C) [] m))
      (λ l m i j o g. let lt = ltb-true (finish_at σ m) (finish_at σ l) g in (λ e. omega (arith, lt, ap (finish_at σ) e), true_holds σ l m (o, omega arith)))
      (λ l m i j d h. let k = inside size σ N l m (w l i).0 (w m j).0 d (holds_true σ l m h) in (λ o. omega (arith, o, k.0), lt-ltb (finish_at σ m) (finish_at σ l) k.1))

  -- lines 5 to 8: each whose complement is held by another's complement goes
  pub lines_neg_lem : (C : List ℕ) → Within size C → lines_neg σ C ≡ unhidden (λ s. s) (λ l m. holds σ (twin m) (twin l)) C
  unfolding lines_neg
  lines_neg_lem C w =
      loop_unhidden (λ a b. ltb b a) σ more twin twin_twice (λ x y. discovery_at σ x ≤ discovery_at σ y) (λ l m. holds σ (twin m) (twin l)) C (by_discovery σ (map twin C))
      (sorted_rising σ (map twin C))
      (λ l m. sorted_in σ (map twin C) (Memᴰ.map twin m))
      (λ x m. let r = Memᴰ.of_map twin C (sorted_out σ (map twin C) m) in Memᴰ.cast (ap twin (sym r.2) ∙ twin_twice r.0) r.1)
      (λ l m i j o g. let lt = ltb-true (finish_at σ (twin l)) (finish_at σ (twin m)) g in (λ e. omega (arith, lt, ap (λ (x : ℕ). finish_at σ (twin x)) e), true_holds σ (twin m) (twin l) (o, omega arith)))
      (λ l m i j d h.
      let k = inside size σ N (twin m) (twin l) (w m j).1 (w l i).1 (λ e. d (sym (twin_eq e))) (holds_true σ (twin m) (twin l) h) in
      (λ o. omega (arith, o, k.0), lt-ltb (finish_at σ (twin l)) (finish_at σ (twin m)) k.1))

  -- figure 5 as printed is the two filters
  pub figure5_means : (C : List ℕ) → Within size C → figure5 σ C ≡ shorten (λ s. s) σ C
  unfolding figure5 shorten
  figure5_means C w = ap (lines_neg σ) (lines_pos_lem C w) ∙ lines_neg_lem (unhidden (λ s. s) (holds σ) C) (λ l m. w l (sub_mem (unhidden_sub (λ s. s) (holds σ) C) m))
