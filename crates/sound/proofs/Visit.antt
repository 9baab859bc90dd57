-- A visit of Sweep, under stamps of the formula's graph, keeps the clause in the sense of `Kept`. Assumes nothing.
use Prim.Native.Nat.{ℕ, ◌<◌}
use native.Mathlib.Omega.{arith}
use mathlib.Core.Path.{◌≡◌, refl, sym, ap, subst, subst₂, ◌∙◌}
use mathlib.Core.Bool.{Bool, true, false}
use mathlib.Core.Logic.{◌⊎◌, ⊎_elim}
use mathlib.Core.List.{List, [], ◌∷◌, Memᴰ}
use lib.ListN.{length}
use Rattle.literal.specs.Literals.{twin}
use Rattle.literal.proofs.Twins.{twin_twice, twin_eq}
use Rattle.walk.specs.Walk.{Stamps}
use Rattle.walk.specs.Forest.{discovery_at, parent_at, Holds, Reach, here, on, Top, Under}
use Rattle.walk.proofs.Theorems.{Stamped, holds_reach, reach_mirror}
use Rattle.implications.specs.Clauses.{Once}
use Rattle.scc.proofs.Kosaraju.{reach_trans}
use Rattle.hidden.specs.Hidden.{hidden_tautology, shorten}
use Rattle.hidden.proofs.Intervals.{Within}
use Rattle.hidden.proofs.Scan.{hidden_of}
use Rattle.hidden.proofs.Pairs.{Reads, by_reads, pair_means}
use Rattle.hidden.proofs.Shorten.{shorten_sub, shorten_leads}
use Rattle.sound.specs.Formula.{Clause, dropped, standing, graph}
use Rattle.sound.specs.Sweep.{sweep_slots}
use Rattle.sound.specs.Kept.{Detour, Kept, same, shorter, round, implied}
use Rattle.sound.proofs.Graph.{skew, reads_other}
use Rattle.sound.proofs.Stamped.{stamped_nested}

module _ (f : List Clause) (size : ℕ) (σ : Stamps) (S : Stamped (graph f) size σ) where
  mirror : {a b : ℕ} → Reach (graph f) a b → Reach (graph f) (twin b) (twin a)
  mirror r = reach_mirror (graph f) twin (skew f) r

  -- an interval that holds another is a path
  held : (a b : ℕ) → a < size → b < size → Holds σ a b → Reach (graph f) a b
  held a b la lb h = holds_reach (graph f) σ S.forest (S.all a la) (S.all b lb) h

  -- every literal of a clause reaches one that figure 5 leaves
  shorten_reach : (C : List ℕ) → Within size C → (l : ℕ) → Memᴰ l C → (m : ℕ) × Memᴰ m (shorten (λ s. s) σ C) × Reach (graph f) l m
  shorten_reach C w =
      shorten_leads (Reach (graph f)) (λ a. here) (λ a b c p q. reach_trans p q) size σ (stamped_nested (graph f) size σ S) C w
      (λ a b i j h. held a b (w a i).0 (w b j).0 h)
      (λ a b i j h. subst₂ (Reach (graph f)) (twin_twice a) (twin_twice b) (mirror (held (twin b) (twin a) (w b j).1 (w a i).1 h)))

  -- an interval that holds another, not its own and not its child's, is a path by way of a third literal: the child's parent
  holds_detour : (p q : ℕ) → p < size → q < size → (q ≡ p → ⊥) → (parent_at σ q ≡ p → ⊥) → Holds σ p q → Detour (graph f) p q
  holds_detour p q lp lq d o h =
      ⊎_elim
      (λ (t : Top σ q). absurd (t.widest p (S.all p lp) (λ e. d (sym e)) h))
      (λ (u : (m : ℕ) × Under (graph f) σ q m).
      let m = u.0 in
      let b = u.1 in (
        m,
        λ e. o (b.parent ∙ e),
        λ e. omega (arith, b.begins, ap (discovery_at σ) e),
        holds_reach (graph f) σ S.forest (S.all p lp) b.entered (b.narrowest p (S.all p lp) (λ e. d (sym e)) h),
        on here b.edge,
      ))
      (S.forest.tree q (S.all q lq))

  -- the contrapositive of a detour
  detour_mirror : {p q : ℕ} → Detour (graph f) p q → Detour (graph f) (twin q) (twin p)
  detour_mirror {p} {q} d = (twin d.0, λ e. d.2 (twin_eq e), λ e. d.1 (twin_eq e), mirror d.4, mirror d.3)

  -- a pair of which one edge has a way round is kept in the sense of the invariant when it is dropped
  pair_round : (a b p q : ℕ) → Reads a b p q → Detour (graph f) p q → Kept (graph f) (standing (a ∷ b ∷ [])) dropped
  pair_round a b p q r d = ⊎_elim (λ e. let k = subst₂ (Detour (graph f)) e.0 e.1 d in round k (turn k)) (λ e. let k = subst₂ (Detour (graph f)) e.0 e.1 d in round (turn k) k) r
    where
      turn : {s t : ℕ} → Detour (graph f) (twin s) t → Detour (graph f) (twin t) s
      turn {s} {t} k = subst (λ (x : ℕ). Detour (graph f) (twin t) x) (twin_twice s) (detour_mirror k)

  -- what the rule for two literals drops: an edge's tail holds its head and is not the head's parent
  pair_kept : (a b : ℕ) → Within size (a ∷ b ∷ []) → Once (a ∷ b ∷ []) → hidden_tautology σ (a ∷ b ∷ []) ≡ true → Kept (graph f) (standing (a ∷ b ∷ [])) dropped
  pair_kept a b w once h =
      let r = (pair_means σ a b).0 h in
      let p = r.0 in
      let q = r.1 in
      let wa = w a (Memᴰ.head refl) in
      let wb = w b (Memᴰ.tail (Memᴰ.head refl)) in
      let ends = by_reads (λ x y. (x < size) × (y < size)) r.2 (wa.1, wb.0) (wb.1, wa.0) in
      pair_round a b p q r.2 (holds_detour p q ends.0 ends.1 (reads_other a b p q once r.2) r.3.1 r.3.0)

  drop_kept : (a b : ℕ) (ls : List ℕ) → Within size (a ∷ b ∷ ls) → Once (a ∷ b ∷ ls) → hidden_tautology σ (a ∷ b ∷ ls) ≡ true → Kept (graph f) (standing (a ∷ b ∷ ls)) dropped
  drop_kept a b [] w once h = pair_kept a b w once h
  drop_kept a b (c ∷ ls) w once h =
      let C : List ℕ = a ∷ b ∷ c ∷ ls in
      let long : 2 < length C = omega arith in
      let r = hidden_of σ C long h in
      implied long r.2 r.3 (held (twin r.0) r.1 (w r.0 r.2).1 (w r.1 r.3).0 r.4)

  -- a visit of Sweep keeps the clause
  pub sweep_kept : (C : List ℕ) → Within size C → Once C → Kept (graph f) (standing C) (sweep_slots σ C)
  unfolding sweep_slots
  sweep_kept [] w once = same
  sweep_kept (a ∷ []) w once = same
  sweep_kept (a ∷ b ∷ ls) w once = go (hidden_tautology σ (a ∷ b ∷ ls)) refl
    where
      go : (v : Bool) → hidden_tautology σ (a ∷ b ∷ ls) ≡ v → Kept (graph f) (standing (a ∷ b ∷ ls)) (elim v [ true ↦ dropped | false ↦ standing (shorten (λ s. s) σ (a ∷ b ∷ ls)) ])
      go true e = drop_kept a b ls w once e
      go false e = shorter (shorten_sub (λ s. s) σ (a ∷ b ∷ ls)) (shorten_reach (a ∷ b ∷ ls) w)
