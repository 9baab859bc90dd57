-- The rules look only at the stamps of the clause's literals and their complements: stamps that agree on the slots below a number give the same results. So the records past 2V do not matter. Assumes nothing.
use Prim.Native.Nat.{ℕ, ◌<◌}
use native.Mathlib.Omega.{arith}
use mathlib.Core.Path.{◌≡◌, refl, ap, subst, ◌∙◌}
use mathlib.Core.Bool.{Bool, true, false, not, ◌&&◌, ◌||◌}
use mathlib.Core.List.Memᴰ
use mathlib.Core.List.{List, [], ◌∷◌, map, Memᴰ}
use lib.Dec.{leb, ltb, eqb}
use Rattle.base.proofs.Lists.{filter_same, sub_mem, any_same}
use Rattle.base.proofs.Searches.{any_below_same, first_same}
use Rattle.literal.specs.Literals.{twin}
use Rattle.walk.specs.Walk.{Stamps}
use Rattle.walk.specs.Forest.{discovery_at, finish_at, parent_at, start_at}
use Rattle.hidden.specs.Hidden.{holds, insert, by_discovery, scan_at, scan, figure6, transitive, hidden_pair, hidden_tautology, unhidden, shorten}
use Rattle.hidden.specs.Failed.{same_start, holds_both, lowest, failed_slot}
use Rattle.hidden.proofs.Intervals.{Within, Below}
use Rattle.hidden.proofs.Sorted.{sorted_out}
use Rattle.hidden.proofs.Shorten.{unhidden_sub}

-- the same records on the slots below size
pub record Agree (size : ℕ) (σ ρ : Stamps) : Type 0 where
  pub discoveries : (q : ℕ) → q < size → discovery_at σ q ≡ discovery_at ρ q
  pub finishes : (q : ℕ) → q < size → finish_at σ q ≡ finish_at ρ q
  pub parents : (q : ℕ) → q < size → parent_at σ q ≡ parent_at ρ q
  pub starts : (q : ℕ) → q < size → start_at σ q ≡ start_at ρ q

-- ---- the rules for a clause

module _ (size : ℕ) (σ ρ : Stamps) (A : Agree size σ ρ) where
  holds_agree : (a b : ℕ) → a < size → b < size → holds σ a b ≡ holds ρ a b
  unfolding holds
  holds_agree a b la lb = λ i. leb (A.discoveries a la i) (A.discoveries b lb i) && leb (A.finishes b lb i) (A.finishes a la i)

  insert_agree : (x : ℕ) (ys : List ℕ) → x < size → Below size ys → insert σ x ys ≡ insert ρ x ys
  unfolding insert
  insert_agree x [] lx b = refl
  insert_agree x (y ∷ ys) lx b =
      λ i. elim (leb (A.discoveries x lx i) (A.discoveries y (b y (Memᴰ.head refl)) i)) [ true ↦ x ∷ y ∷ ys | false ↦ y ∷ insert_agree x ys lx (λ z m. b z (Memᴰ.tail m)) i ]

  sorted_agree : (xs : List ℕ) → Below size xs → by_discovery σ xs ≡ by_discovery ρ xs
  unfolding by_discovery
  sorted_agree [] b = refl
  sorted_agree (x ∷ xs) b =
      let c : Below size xs = λ y m. b y (Memᴰ.tail m) in
      insert_agree x (by_discovery σ xs) (b x (Memᴰ.head refl)) (λ y m. c y (sorted_out σ xs m)) ∙ ap (insert ρ x) (sorted_agree xs c)

  scan_at_agree : (next next' : List ℕ → Bool) (p : ℕ) (ns : List ℕ) → ((ms : List ℕ) → Below size ms → next ms ≡ next' ms) → p < size → Below size ns → scan_at σ next p ns ≡ scan_at ρ next' p ns
  unfolding scan_at
  scan_at_agree next next' p [] same lp b = refl
  scan_at_agree next next' p (n ∷ ns) same lp b =
      let ln = b n (Memᴰ.head refl) in
      λ i. elim (ltb (A.discoveries p lp i) (A.discoveries n ln i)) [
        | true ↦ same (n ∷ ns) b i
        | false ↦ elim (ltb (A.finishes n ln i) (A.finishes p lp i)) [ true ↦ scan_at_agree next next' p ns same lp (λ y m. b y (Memᴰ.tail m)) i | false ↦ true ]
      ]

  scan_agree : (ps ns : List ℕ) → Below size ps → Below size ns → scan σ ps ns ≡ scan ρ ps ns
  unfolding scan
  scan_agree [] ns bp bn = refl
  scan_agree (p ∷ ps) ns bp bn = scan_at_agree (scan σ ps) (scan ρ ps) p ns (λ ms bm. scan_agree ps ms (λ y m. bp y (Memᴰ.tail m)) bm) (bp p (Memᴰ.head refl)) bn

  figure6_agree : (C : List ℕ) → Within size C → figure6 σ C ≡ figure6 ρ C
  unfolding figure6
  figure6_agree C w =
      let twins : Below size (map twin C) = λ x m. let r = Memᴰ.of_map twin C m in subst (λ (y : ℕ). y < size) r.2 (w r.0 r.1).1 in
      scan_agree (by_discovery σ C) (by_discovery σ (map twin C)) (λ x m. (w x (sorted_out σ C m)).0) (λ x m. twins x (sorted_out σ (map twin C) m))
      ∙ ap (λ (l : List ℕ). scan ρ l (by_discovery σ (map twin C))) (sorted_agree C (λ x m. (w x m).0))
      ∙ ap (scan ρ (by_discovery ρ C)) (sorted_agree (map twin C) twins)

  transitive_agree : (p q : ℕ) → p < size → q < size → transitive σ p q ≡ transitive ρ p q
  unfolding transitive
  transitive_agree p q lp lq = λ i. holds_agree p q lp lq i && not (eqb (A.parents q lq i) p)

  pub tautology_agree : (C : List ℕ) → Within size C → hidden_tautology σ C ≡ hidden_tautology ρ C
  unfolding hidden_tautology hidden_pair
  tautology_agree [] w = refl
  tautology_agree (a ∷ []) w = refl
  tautology_agree (a ∷ b ∷ []) w =
      let wa = w a (Memᴰ.head refl) in
      let wb = w b (Memᴰ.tail (Memᴰ.head refl)) in
      λ i. transitive_agree (twin a) b wa.1 wb.0 i || transitive_agree (twin b) a wb.1 wa.0 i
  tautology_agree (a ∷ b ∷ c ∷ ls) w = figure6_agree (a ∷ b ∷ c ∷ ls) w

  unhidden_agree : {L : Type 0} (slot : L → ℕ) (f g : ℕ → ℕ → Bool) (C : List L) → ((a b : ℕ) → Memᴰ a (map slot C) → Memᴰ b (map slot C) → f a b ≡ g a b) → unhidden slot f C ≡ unhidden slot g C
  unfolding unhidden
  unhidden_agree slot f g C h =
      filter_same _ _ C (λ l m. ap not (any_same _ _ (map slot C) (λ b n. ap (λ (v : Bool). not (eqb b (slot l)) && v) (h (slot l) b (Memᴰ.map slot m) n))))

  pub shorten_agree : {L : Type 0} (slot : L → ℕ) (C : List L) → Within size (map slot C) → shorten slot σ C ≡ shorten slot ρ C
  unfolding shorten
  shorten_agree {L} slot C w =
      let D : List L = unhidden slot (holds σ) C in
      let in-C : (a : ℕ) → Memᴰ a (map slot D) → Memᴰ a (map slot C) = λ a m. let r = Memᴰ.of_map slot D m in subst (λ (x : ℕ). Memᴰ x (map slot C)) r.2 (Memᴰ.map slot (sub_mem (unhidden_sub slot (holds σ) C) r.1)) in
      unhidden_agree slot (λ l m. holds σ (twin m) (twin l)) (λ l m. holds ρ (twin m) (twin l)) D (λ a b i j. holds_agree (twin b) (twin a) (w b (in-C b j)).1 (w a (in-C a i)).1)
      ∙ ap (unhidden slot (λ l m. holds ρ (twin m) (twin l))) (unhidden_agree slot (holds σ) (holds ρ) C (λ a b i j. holds_agree a b (w a i).0 (w b j).0))

  -- ---- failed literals

  module _ (s : ℕ) (ls : s < size) (lt : twin s < size) where
    pub same_agree : same_start σ s ≡ same_start ρ s
    unfolding same_start
    same_agree = λ i. eqb (A.starts s ls i) (A.starts (twin s) lt i)

    both_agree : (x : ℕ) → x < size → holds_both σ s x ≡ holds_both ρ s x
    unfolding holds_both
    both_agree x lx = λ i. holds_agree x s lx ls i && holds_agree x (twin s) lx lt i

    lowest_agree : (x : ℕ) → x < size → lowest σ size s x ≡ lowest ρ size s x
    unfolding lowest
    lowest_agree x lx =
        λ i. both_agree x lx i && not (any_below_same (λ y. not (eqb y x) && (holds_both σ s y && holds σ x y)) (λ y. not (eqb y x) && (holds_both ρ s y && holds ρ x y)) size
        (λ y ly. ap (λ (b : Bool). not (eqb y x) && b) (λ j. both_agree y ly j && holds_agree x y lx ly j)) i)

    pub failed_agree : failed_slot σ size s ≡ failed_slot ρ size s
    unfolding failed_slot
    failed_agree = first_same (lowest σ size s) (lowest ρ size s) size 0 (λ x le lx. lowest_agree x (omega arith))
