-- Merge's groups, as crate merge finds them, give the moves that Merge makes when it opens.
--     clash_found     where `clashes` says that v and -v share a group, the mark is right
--     clash_none      and where it does not, no literal shares its group with its complement
--     least_grouped   the least slot of each group is a class literal for its literals
--     least_twin      with the sign that equality gives it, where there is no clash
-- Assumes nothing.
use Prim.Native.Nat.{ℕ, ◌+◌, ◌*◌, ◌/◌, ◌%◌, ◌≤◌, ◌<◌}
use native.Mathlib.Omega.{arith}
use mathlib.Core.Path.{◌≡◌, refl, sym, ap, subst, subst₂, ◌∙◌}
use mathlib.Core.Bool.{Bool, true, false}
use mathlib.Core.Logic.{⊎_elim}
use mathlib.Core.List.{List, map}
use lib.Dec.{ltb}
use borrow.Author.Tests.{ltb-true, ltb-false, lt-ltb, le-ltb}
use Rattle.base.specs.Decide.{same_or}
use Rattle.base.proofs.Booleans.{and_left, and_right, clash, and_both}
use Rattle.base.proofs.Searches.{any_below_in, any_below_out}
use Rattle.literal.specs.Literals.{twin}
use Rattle.literal.proofs.Twins.{twin_even, twin_odd, twin_below}
use Rattle.walk.specs.Forest.{Reach, here}
use Rattle.implications.specs.Skew.{Skew}
use Rattle.implications.proofs.Implications.{implications_skew}
use Rattle.scc.specs.Groups.{reaches, connected, least_mutual}
use Rattle.scc.proofs.Least.{reaches_means, least_mutual_lem}
use Rattle.scc.proofs.Classes.{same_rep, twin_rep}
use Rattle.merge.specs.Merge.{clashes}
use Rattle.sound.specs.Formula.{literals_in, graph}
use Rattle.sound.specs.Kept.{Shaped}
use Rattle.sound.proofs.Graph.{shaped_below}
use Rattle.moves.specs.Core.{Core, marked_core, regroup}
use Rattle.moves.specs.Moves.{Owned, Change, contrary, grouped}

-- the class literal of a slot below size; the others have none but themselves
unfoldable pub least : (ℕ → List ℕ) → ℕ → ℕ → ℕ
least adj size s = elim (ltb s size) [ true ↦ least_mutual adj size s | false ↦ s ]

module _ (vars : ℕ) (k : Core) (shaped : Shaped vars k.clauses) where
  abbrev adj : ℕ → List ℕ
  adj = graph k.clauses

  abbrev rep : ℕ → ℕ
  rep = least adj (2 * vars)

  graph_skew : Skew adj twin (2 * vars)
  unfolding graph
  graph_skew = implications_skew (map literals_in k.clauses) vars (shaped_below vars k.clauses shaped)

  -- ---- a literal and its complement

  pub clash_found : clashes adj vars ≡ true → Change k (marked_core k)
  unfolding clashes connected
  clash_found h =
      let r = any_below_out vars (λ w. connected adj (2 * vars) (2 * w) (2 * w + 1)) h in
      let w = r.0 in
      let e : 2 * w + 1 ≡ twin (2 * w) = sym (twin_even (2 * w) (omega arith)) in
      let there = (reaches_means adj (2 * vars) graph_skew.inside (2 * w) (2 * w + 1) (omega (arith, r.1))).0 (and_left _ _ r.2) in
      let back = (reaches_means adj (2 * vars) graph_skew.inside (2 * w + 1) (2 * w) (omega (arith, r.1))).0 (and_right (reaches adj (2 * vars) (2 * w) (2 * w + 1)) _ r.2) in
      contrary (2 * w) (subst (Reach adj (2 * w)) e there) (subst (λ (x : ℕ). Reach adj x (2 * w)) e back)

  pub clash_none : clashes adj vars ≡ false → (s : ℕ) → s < 2 * vars → Reach adj s (twin s) → Reach adj (twin s) s → ⊥
  unfolding clashes connected
  clash_none h s lt there back =
      ⊎_elim
      (λ (e : s % 2 ≡ 0).
      let a : 2 * (s / 2) ≡ s = omega arith in
      let b : 2 * (s / 2) + 1 ≡ twin s = omega (arith, twin_even s e) in
      shared (s / 2) (omega arith) (subst₂ (Reach adj) (sym a) (sym b) there) (subst₂ (Reach adj) (sym b) (sym a) back))
      (λ (d : s % 2 ≡ 0 → ⊥).
      let a : 2 * (s / 2) ≡ twin s = omega (arith, d, twin_odd s d) in
      let b : 2 * (s / 2) + 1 ≡ s = omega (arith, d) in
      shared (s / 2) (omega arith) (subst₂ (Reach adj) (sym a) (sym b) back) (subst₂ (Reach adj) (sym b) (sym a) there))
      (same_or (s % 2) 0)
    where
      shared : (w : ℕ) → w < vars → Reach adj (2 * w) (2 * w + 1) → Reach adj (2 * w + 1) (2 * w) → ⊥
      shared w lw p q =
          clash
          (any_below_in vars (λ x. connected adj (2 * vars) (2 * x) (2 * x + 1)) w lw
          (and_both _ _
          ((reaches_means adj (2 * vars) graph_skew.inside (2 * w) (2 * w + 1) (omega arith)).1 p)
          ((reaches_means adj (2 * vars) graph_skew.inside (2 * w + 1) (2 * w) (omega arith)).1 q)))
          h

  -- ---- the least slot

  pub least_in : (s : ℕ) → s < 2 * vars → rep s ≡ least_mutual adj (2 * vars) s
  unfolding least
  least_in s lt = rw (lt-ltb s (2 * vars) lt, least)

  pub least_out : (s : ℕ) → 2 * vars ≤ s → rep s ≡ s
  unfolding least
  least_out s le = rw (le-ltb s (2 * vars) le, least)

  -- below: in the group; else: itself
  least_both : (s : ℕ) → Reach adj s (rep s) × Reach adj (rep s) s
  least_both s = go (ltb s (2 * vars)) refl
    where
      go : (b : Bool) → ltb s (2 * vars) ≡ b → Reach adj s (rep s) × Reach adj (rep s) s
      go true e =
          let lt = ltb-true s (2 * vars) e in
          let r = least_mutual_lem adj (2 * vars) graph_skew.inside s lt in
          rw (least_in s lt) (r.there, r.back)
      go false e = rw (least_out s (ltb-false s (2 * vars) e)) (here, here)

  least_once : (s : ℕ) → rep (rep s) ≡ rep s
  least_once s = go (ltb s (2 * vars)) refl
    where
      go : (b : Bool) → ltb s (2 * vars) ≡ b → rep (rep s) ≡ rep s
      go true e =
          let lt = ltb-true s (2 * vars) e in
          let r = least_mutual_lem adj (2 * vars) graph_skew.inside s lt in
          ap rep (least_in s lt) ∙ least_in (least_mutual adj (2 * vars) s) r.below
          ∙ (same_rep adj (2 * vars) graph_skew (least_mutual adj (2 * vars) s) s r.below lt).1 r.back r.there
          ∙ sym (least_in s lt)
      go false e = ap rep (least_out s (ltb-false s (2 * vars) e))

  pub least_grouped : Owned k → Change k (regroup rep k)
  least_grouped own = grouped rep own least_both least_once

  pub least_twin : clashes adj vars ≡ false → (s : ℕ) → s < 2 * vars → rep (twin s) ≡ twin (rep s)
  least_twin h s lt = least_in (twin s) (twin_below vars s lt) ∙ twin_rep adj (2 * vars) graph_skew s lt (clash_none h s lt) ∙ ap twin (sym (least_in s lt))
