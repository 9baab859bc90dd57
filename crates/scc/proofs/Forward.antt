-- Refusal 7. For the implication graph of clauses on the slots of v variables:
--     cyclic_found, found_cyclic, cyclic_none, none_cyclic   the definition's `cyclic` says exactly whether two different slots reach each other
--     cyclic_forward              and the linear test on the walk's finishes says the same: `cyclic` is its opposite
-- Assumes nothing.
use Prim.Native.Nat.{ℕ, ◌*◌, ◌≤◌, ◌<◌}
use native.Mathlib.Omega.{arith}
use mathlib.Core.Path.{◌≡◌, refl, sym, ap, subst, ◌∙◌}
use mathlib.Core.Bool.{Bool, true, false, not, ◌&&◌}
use mathlib.Core.Logic.{◌⊎◌, inl, inr, ⊎_elim}
use mathlib.Core.List.{List, [], ◌∷◌, Memᴰ}
use lib.Dec.{ltb, eqb}
use borrow.Author.Tests.{ltb-true, ltb-false}
use Rattle.base.specs.Lists.{any_below}
use Rattle.base.proofs.Booleans.{and_left, and_right, bool_or, clash, and_both, differ, differs}
use Rattle.base.proofs.Searches.{any_below_in, any_below_out}
use Rattle.literal.specs.Literals.{twin}
use Rattle.literal.proofs.Twins.{twin_twice, twin_below}
use Rattle.walk.specs.Walk.{Stamps}
use Rattle.walk.specs.Forest.{discovery_at, finish_at, Holds, Parted, Reach, here, on}
use Rattle.walk.proofs.Theorems.{Stamped, back_cycle, acyclic}
use Rattle.implications.specs.Clauses.{froms, tos, implications, Once}
use Rattle.implications.proofs.Csr.{outs_mem}
use Rattle.implications.proofs.Implications.{flip, tos_mem, no_self_edge}
use Rattle.scc.specs.Groups.{reaches, connected, cyclic}
use Rattle.scc.proofs.Least.{reaches_means}
use Rattle.scc.specs.Forward.{Cycle, Acyclic, forward}
use Rattle.scc.proofs.Edges.{Edge, first, later, outs_edge, edge_outs}

-- ---- the test, edge by edge

forward_edge : (σ : Stamps) {s t : ℕ} {fs ts : List ℕ} → Edge s t fs ts → forward σ fs ts ≡ true → finish_at σ t < finish_at σ s
unfolding forward
forward_edge σ {s} {t} (first {f = f} {x = x} {fs = fs} {ts = ts} p q) h = go (ltb (finish_at σ x) (finish_at σ f)) refl h
  where
    go : (b : Bool) → ltb (finish_at σ x) (finish_at σ f) ≡ b → ◌≡◌ {A = Bool} (elim b [ true ↦ forward σ fs ts | false ↦ false ]) true → finish_at σ t < finish_at σ s
    go true e k = omega (arith, ltb-true (finish_at σ x) (finish_at σ f) e, ap (finish_at σ) p, ap (finish_at σ) q)
    go false e k = clash k refl
forward_edge σ {s} {t} (later {f = f} {x = x} {fs = fs} {ts = ts} r) h = go (λ k. forward_edge σ r k) (ltb (finish_at σ x) (finish_at σ f)) h
  where
    go : (forward σ fs ts ≡ true → finish_at σ t < finish_at σ s) → (b : Bool) → ◌≡◌ {A = Bool} (elim b [ true ↦ forward σ fs ts | false ↦ false ]) true → finish_at σ t < finish_at σ s
    go rest true k = rest k
    go rest false k = clash k refl

forward_not : (σ : Stamps) (fs ts : List ℕ) → forward σ fs ts ≡ false → (s : ℕ) × (t : ℕ) × Edge s t fs ts × (finish_at σ s ≤ finish_at σ t)
unfolding forward
forward_not σ [] ts h = clash refl h
forward_not σ (f ∷ fs) [] h = clash refl h
forward_not σ (f ∷ fs) (x ∷ ts) h = go (λ k. forward_not σ fs ts k) (ltb (finish_at σ x) (finish_at σ f)) refl h
  where
    go : (forward σ fs ts ≡ false → (s : ℕ) × (t : ℕ) × Edge s t fs ts × (finish_at σ s ≤ finish_at σ t)) → (b : Bool) → ltb (finish_at σ x) (finish_at σ f) ≡ b
        → ◌≡◌ {A = Bool} (elim b [ true ↦ forward σ fs ts | false ↦ false ]) false → (s : ℕ) × (t : ℕ) × Edge s t (f ∷ fs) (x ∷ ts) × (finish_at σ s ≤ finish_at σ t)
    go rest true e k = let r = rest k in (r.0, r.1, later r.2, r.3)
    go rest false e k = (f, x, first refl refl, ltb-false (finish_at σ x) (finish_at σ f) e)

module _ (cs : List (List ℕ)) (v : ℕ) (below : (c : List ℕ) → Memᴰ c cs → (q : ℕ) → Memᴰ q c → q < 2 * v) where
  to_below : (s t : ℕ) → Memᴰ t (implications cs s) → t < 2 * v
  to_below s t m = let k = tos_mem cs (outs_mem (froms cs) (tos cs) s m) in below k.0 k.1 t k.2

  -- the edges lie among the slots of the variables: an edge's tail is the twin of the contrapositive's head
  pub edge_below : (s t : ℕ) → Memᴰ t (implications cs s) → (s < 2 * v) × (t < 2 * v)
  edge_below s t m = (subst (λ (k : ℕ). k < 2 * v) (twin_twice s) (twin_below v (twin s) (to_below (twin t) (twin s) (flip cs s t m))), to_below s t m)

  -- so do the two ends of a path between different slots
  pub reach_within : {a b : ℕ} → Reach (implications cs) a b → (a ≡ b) ⊎ ((a < 2 * v) × (b < 2 * v))
  reach_within here = inl refl
  reach_within {a} (on {b = b} {c = c} r m) =
      let e = edge_below b c m in
      inr (⊎_elim (λ (i : a ≡ b). subst (λ (k : ℕ). k < 2 * v) (sym i) e.0) (λ k. k.0) (reach_within r), e.1)

  -- ---- the definition

  pub cyclic_found : cyclic (implications cs) (2 * v) ≡ true → Cycle (implications cs)
  unfolding cyclic connected
  cyclic_found h =
      let adj : ℕ → List ℕ = implications cs in
      let one = any_below_out (2 * v) (λ a. any_below (2 * v) (λ b. not (eqb a b) && connected adj (2 * v) a b)) h in
      let a = one.0 in
      let two = any_below_out (2 * v) (λ b. not (eqb a b) && connected adj (2 * v) a b) one.2 in
      let b = two.0 in
      let both = and_right (not (eqb a b)) (connected adj (2 * v) a b) two.2 in
      let means = reaches_means adj (2 * v) (λ s t lt m. to_below s t m) in (
        a,
        b,
        differ a b (and_left (not (eqb a b)) (connected adj (2 * v) a b) two.2),
        (means a b one.1).0 (and_left (reaches adj (2 * v) a b) (reaches adj (2 * v) b a) both),
        (means b a two.1).0 (and_right (reaches adj (2 * v) a b) (reaches adj (2 * v) b a) both),
      )

  pub found_cyclic : Cycle (implications cs) → cyclic (implications cs) (2 * v) ≡ true
  unfolding cyclic connected
  found_cyclic k =
      let adj : ℕ → List ℕ = implications cs in
      let a = k.0 in
      let b = k.1 in
      let lt = ⊎_elim (λ e. absurd (k.2 e)) (λ h. h) (reach_within k.3) in
      let means = reaches_means adj (2 * v) (λ s t lt m. to_below s t m) in
      any_below_in (2 * v) (λ a. any_below (2 * v) (λ b. not (eqb a b) && connected adj (2 * v) a b)) a lt.0
      (any_below_in (2 * v) (λ b. not (eqb a b) && connected adj (2 * v) a b) b lt.1
      (and_both _ _ (differs a b k.2) (and_both _ _ ((means a b lt.0).1 k.3) ((means b a lt.1).1 k.4))))

  pub cyclic_none : cyclic (implications cs) (2 * v) ≡ false → Acyclic (implications cs)
  cyclic_none h a b d there back = clash (found_cyclic (a, b, d, there, back)) h

  pub none_cyclic : Acyclic (implications cs) → cyclic (implications cs) (2 * v) ≡ false
  none_cyclic none = ⊎_elim (λ h. let k = cyclic_found h in absurd (none k.0 k.1 k.2 k.3 k.4)) (λ h. h) (bool_or (cyclic (implications cs) (2 * v)))

  -- ---- the test, on the stamps of a walk

  module _ (once : (c : List ℕ) → Memᴰ c cs → Once c) (σ : Stamps) (S : Stamped (implications cs) (2 * v) σ) where
    forward_acyclic : forward σ (froms cs) (tos cs) ≡ true → Acyclic (implications cs)
    forward_acyclic h a b d there back =
        acyclic (implications cs) σ S.forest
        (λ x y e m o k. let lt = forward_edge σ (outs_edge (froms cs) (tos cs) x y m) h in omega (arith, lt, k.1))
        a b (⊎_elim (λ e. absurd (d e)) (λ h. S.all a h.0) (reach_within there)) d there back

    -- an edge to a literal that does not finish earlier goes to one that holds its tail
    back_holds : (a b : ℕ) → 0 < discovery_at σ a → Memᴰ b (implications cs a) → (a ≡ b → ⊥) → finish_at σ a ≤ finish_at σ b → Holds σ b a
    back_holds a b ea m d le = go (S.forest.parted a b ea (S.forest.closed a b ea m) d)
      where
        go : Parted σ a b → Holds σ b a
        go (inl h) = absurd (omega (arith, h, S.forest.seen a b ea m))
        go (inr (inl h)) = absurd (omega (arith, h, le, S.forest.spans a ea))
        go (inr (inr (inl h))) = absurd (omega (arith, h, le))
        go (inr (inr (inr h))) = (omega arith, omega arith)

    forward_cycle : forward σ (froms cs) (tos cs) ≡ false → Cycle (implications cs)
    forward_cycle h =
        let r = forward_not σ (froms cs) (tos cs) h in
        let a = r.0 in
        let b = r.1 in
        let m = edge_outs r.2 in
        let ea = S.all a (edge_below a b m).0 in
        let d : a ≡ b → ⊥ = λ e. no_self_edge cs once b (subst (λ (k : ℕ). Memᴰ b (implications cs k)) e m) in
        let c = back_cycle (implications cs) σ S.forest a b ea m (back_holds a b ea m d r.3) in
        (a, b, d, c.0, c.1)

    -- refusal 7 is exact: the graph is cyclic exactly where the test fails
    pub cyclic_forward : cyclic (implications cs) (2 * v) ≡ not (forward σ (froms cs) (tos cs))
    cyclic_forward =
        ⊎_elim
        (λ h. none_cyclic (forward_acyclic h) ∙ sym (ap not h))
        (λ h. found_cyclic (forward_cycle h) ∙ sym (ap not h))
        (bool_or (forward σ (froms cs) (tos cs)))
