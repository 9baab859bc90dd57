-- What Sweep finds for a clause of literals under fresh stamps. Assumes nothing.
use Prim.Native.Nat.{ℕ, ◌*◌, ◌<◌}
use native.Mathlib.Omega.{arith}
use mathlib.Core.Path.{◌≡◌, refl, sym, ap, subst, subst₂, ◌∙◌}
use mathlib.Core.Bool.{Bool, true}
use mathlib.Core.Logic.{◌⊎◌, ◌↔◌, inl, inr, ⊎_elim}
use mathlib.Core.List.Memᴰ
use mathlib.Core.List.{List, [], ◌∷◌, map, Memᴰ}
use lib.ListN.{length, length-map}
use lib.IntN.{ℤ, neg_ℤ}
use Rattle.base.proofs.Lists.{any_in, sub_mem}
use Rattle.literal.specs.Literals.{Literal, slot_of, twin}
use Rattle.literal.proofs.Laws.{slot_twin, slot_same, slot_below}
use Rattle.literal.proofs.Signed.{abs_neg}
use Rattle.walk.specs.Walk.{Stamps}
use Rattle.walk.specs.Forest as forest
use Rattle.stamps.specs.Fresh.{FreshStamps}
use Rattle.stamp_columns.specs.Columns.{columns}
use Rattle.hidden.specs.Hidden.{holds, figure6, hidden_tautology, unhidden, shorten, figure5}
use Rattle.hidden.proofs.Intervals.{Nested, Within, holds_true, true_holds}
use Rattle.stamp_columns.proofs.Columns.{column_discovery, column_finishes, column_parents}
use Rattle.hidden.proofs.FreshColumns.{fresh_nested}
use Rattle.hidden.proofs.Scan.{tautology_figure, hidden_of, tautology_means}
use Rattle.hidden.proofs.Pairs.{Reads, Transitive, pair_means}
use Rattle.hidden.proofs.Shorten.{unhidden_sub, shorten_slots}
use Rattle.hidden.proofs.Figure5.{figure5_means}
use Rattle.tables.specs.Tables.{Tables}
use Rattle.visits.specs.Formed.{FitClause}
use Rattle.visits.proofs.Fitting.{fit_member, fit_slots}
use Rattle.paper.specs.Records.{discovered, parent, Holds}
use Rattle.paper.specs.Edges.{EdgeOf, first, second}
use Rattle.paper.specs.Sweeping.{Hidden, HiddenPair, Shortened}
use Rattle.paper.proofs.Filters.{unhidden_left}

module _ (t : Tables) (v : ℕ) (F : FreshStamps v t.times t.links) where
  abbrev σ : Stamps
  σ = columns t.times t.links

  N : Nested (2 * v) σ
  N = fresh_nested t.times t.links v F

  discoveries_is : (p : ℤ) → forest.discovery_at σ (slot_of p) ≡ discovered t p
  discoveries_is p = column_discovery t.times t.links (slot_of p)

  -- ---- the columns are the records

  to_columns : (p q : ℤ) → Holds t p q → forest.Holds σ (slot_of p) (slot_of q)
  to_columns p q h = (
    omega (arith, h.0, discoveries_is p, discoveries_is q),
    omega (arith, h.1, column_finishes t.times t.links (slot_of p), column_finishes t.times t.links (slot_of q)),
  )

  to_records : (p q : ℤ) → forest.Holds σ (slot_of p) (slot_of q) → Holds t p q
  to_records p q h = (
    omega (arith, h.0, discoveries_is p, discoveries_is q),
    omega (arith, h.1, column_finishes t.times t.links (slot_of p), column_finishes t.times t.links (slot_of q)),
  )

  from_twin : (l m : ℤ) → Literal v l → forest.Holds σ (twin (slot_of l)) (slot_of m) → Holds t (neg_ℤ l) m
  from_twin l m L h = to_records (neg_ℤ l) m (subst (λ (s : ℕ). forest.Holds σ s (slot_of m)) (sym (slot_twin l L.above)) h)

  to_twin : (l m : ℤ) → Literal v l → Holds t (neg_ℤ l) m → forest.Holds σ (twin (slot_of l)) (slot_of m)
  to_twin l m L h = subst (λ (s : ℕ). forest.Holds σ s (slot_of m)) (slot_twin l L.above) (to_columns (neg_ℤ l) m h)

  both_twins : (l m : ℤ) → Literal v l → Literal v m → (holds σ (twin (slot_of m)) (twin (slot_of l)) ≡ true) ↔ Holds t (neg_ℤ m) (neg_ℤ l)
  both_twins l m L M = (
    λ h. to_records (neg_ℤ m) (neg_ℤ l) (subst₂ (forest.Holds σ) (sym (slot_twin m M.above)) (sym (slot_twin l L.above)) (holds_true σ (twin (slot_of m)) (twin (slot_of l)) h)),
    λ h. true_holds σ (twin (slot_of m)) (twin (slot_of l)) (subst₂ (forest.Holds σ) (slot_twin m M.above) (slot_twin l L.above) (to_columns (neg_ℤ m) (neg_ℤ l) h)),
  )

  module _ {w : List ℤ} {b : Bool} {C : List ℤ} (fit : FitClause v w b C) where
    ranged : (l : ℤ) → Memᴰ l C → Literal v l
    ranged l m = fit_member fit m

    within : Within (2 * v) (map slot_of C)
    within = fit_slots fit

    -- ---- figure 6, for three or more literals

    three_slots : 2 < length C → 2 < length (map slot_of C)
    three_slots three = omega (arith, three, length-map C slot_of)

    pub figure_exact : 2 < length C → hidden_tautology σ (map slot_of C) ≡ figure6 σ (map slot_of C)
    figure_exact three = tautology_figure σ (map slot_of C) (three_slots three)

    pub long_exact : 2 < length C → (hidden_tautology σ (map slot_of C) ≡ true) ↔ Hidden t C
    long_exact three = (
      λ h.
          let r = hidden_of σ (map slot_of C) (three_slots three) h in
          let a = Memᴰ.of_map slot_of C r.2 in
          let d = Memᴰ.of_map slot_of C r.3 in
          record { l = a.0; m = d.0; l_in = a.1; m_in = d.1; held = from_twin a.0 d.0 (ranged a.0 a.1) (subst₂ (λ (x y : ℕ). forest.Holds σ (twin x) y) (sym a.2) (sym d.2) r.4) },
      λ H.
          tautology_means (2 * v) σ N (map slot_of C) within (three_slots three)
          ∙ any_in _ (map slot_of C) (Memᴰ.map slot_of H.l_in) (any_in _ (map slot_of C) (Memᴰ.map slot_of H.m_in) (true_holds σ (twin (slot_of H.l)) (slot_of H.m) (to_twin H.l H.m (ranged H.l H.l_in) H.held))),
    )

    -- ---- figure 5

    pub shortened_exact : Shortened t C (shorten slot_of σ C)
    unfolding shorten
    shortened_exact =
        let D : List ℤ = unhidden slot_of (holds σ) C in
        let in-C : (l : ℤ) → Memᴰ l D → Literal v l = λ l m. ranged l (sub_mem (unhidden_sub slot_of (holds σ) C) m) in
        record {
          rest = D;
          first = unhidden_left v (λ l m. Holds t l m) (holds σ) C ranged (λ l m i j. (λ h. to_records l m (holds_true σ (slot_of l) (slot_of m) h), λ h. true_holds σ (slot_of l) (slot_of m) (to_columns l m h)));
          second = unhidden_left v (λ l m. Holds t (neg_ℤ m) (neg_ℤ l)) (λ l m. holds σ (twin m) (twin l)) D in-C (λ l m i j. both_twins l m (in-C l i) (in-C m j));
        }

    pub shortened_printed : map slot_of (shorten slot_of σ C) ≡ figure5 σ (map slot_of C)
    shortened_printed = shorten_slots slot_of σ C ∙ sym (figure5_means (2 * v) σ N (map slot_of C) within)

  -- ---- two literals

  module _ {w : List ℤ} {b : Bool} {x y : ℤ} (fit : FitClause v w b (x ∷ y ∷ [])) where
    X : Literal v x
    X = fit_member fit (Memᴰ.head refl)

    Y : Literal v y
    Y = fit_member fit (Memᴰ.tail (Memᴰ.head refl))

    pub pair_hidden : (hidden_tautology σ (map slot_of (x ∷ y ∷ [])) ≡ true) ↔ HiddenPair t x y
    pair_hidden =
        let M = pair_means σ (slot_of x) (slot_of y) in (
          λ h.
              let r = M.0 h in
              ⊎_elim
              (λ e. to_pair x y X Y (first refl refl) (subst₂ (Transitive σ) e.0 e.1 r.3))
              (λ e. to_pair y x Y X (second refl refl) (subst₂ (Transitive σ) e.0 e.1 r.3))
              r.2,
          λ H. M.1 (from_pair H.edge H.held H.no_parent),
        )
      where
        to_pair : (l m : ℤ) → Literal v l → Literal v m → EdgeOf x y (neg_ℤ l) m → Transitive σ (twin (slot_of l)) (slot_of m) → HiddenPair t x y
        to_pair l m L K edge T = record { p = neg_ℤ l; q = m; edge = edge; held = from_twin l m L T.0; no_parent = λ e. T.1 (column_parents t.times t.links (slot_of m) ∙ ap slot_of e ∙ slot_twin l L.above) }

        shown : (l m : ℤ) {p q : ℤ} → Literal v l → Literal v m → p ≡ neg_ℤ l → q ≡ m → Holds t p q → (parent t q ≡ p → ⊥) → Transitive σ (twin (slot_of l)) (slot_of m)
        shown l m {p} {q} L K e f h none =
            let P = F.parent_literal (slot_of m) (slot_below m v K.above K.within) in (
              to_twin l m L (subst₂ (Holds t) e f h),
              λ i. none (ap (parent t) f ∙ slot_same (parent t m) (neg_ℤ l) P.above (omega (arith, L.above, abs_neg l)) (sym (column_parents t.times t.links (slot_of m)) ∙ i ∙ sym (slot_twin l L.above)) ∙ sym e),
            )

        from_pair : {p q : ℤ} → EdgeOf x y p q → Holds t p q → (parent t q ≡ p → ⊥) → (p' : ℕ) × (q' : ℕ) × Reads (slot_of x) (slot_of y) p' q' × Transitive σ p' q'
        from_pair (first e f) h none = (twin (slot_of x), slot_of y, inl (refl, refl), shown x y X Y e f h none)
        from_pair (second e f) h none = (twin (slot_of y), slot_of x, inr (refl, refl), shown y x Y X e f h none)
