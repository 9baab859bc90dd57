-- Every move keeps the assignments that satisfy what stands; so does every list of moves (`demand_3`). Assumes nothing.
use Prim.Native.Nat.{ℕ, ◌*◌, ◌≤◌, ◌<◌}
use mathlib.Core.Path.{◌≡◌, refl, sym, ap, subst, ◌∙◌}
use mathlib.Core.Bool.{Bool, true, ◌||◌, or-true}
use mathlib.Core.Logic.Iff
use mathlib.Core.Logic.{⊎_elim, ◌↔◌}
use mathlib.Core.List.Memᴰ
use mathlib.Core.List.{List, [], ◌∷◌}
use lib.ListN.{length, get_or, set}
use lib.Seq.{get_or-set_same, get_or-set_other, set_out}
use lib.Dec.{eqb}
use borrow.Author.Tests.{eqb-true, eq-eqb}
use Rattle.base.specs.Decide.{same_or, le_or}
use Rattle.base.proofs.Booleans.{clash, both_ways, or_either}
use Rattle.base.proofs.Lists.{sub_mem, mem_get_d}
use Rattle.literal.specs.Literals.{twin}
use Rattle.literal.specs.Assignments.{Assignment}
use Rattle.hidden.specs.Failed.{failed_slot}
use Rattle.sound.specs.Formula.{Clause, dropped, standing, value, True, Sat, Models}
use Rattle.sound.proofs.Truth.{true_or, not_both}
use Rattle.sound.proofs.Sound.{nth_mem, reach_true}
use Rattle.sound.proofs.Fresh.{Fresh, fresh_stamp, fresh_sweep, sweep_models, failed_true}
use Rattle.moves.specs.Core.{Core, ModelOf, load, core_clause, put, learn, marked_core, core_true, core_false}
use Rattle.moves.specs.Moves.{Change, satisfied, falsified, unit, conflict, contrary, grouped, substituted, tautology, Freshness, spent, fresh, Behind, spend, failed, opposite, sweep, Move, change, stamp, behind, Moves, stay, go}

-- the same assignments satisfy both
abbrev Same : Core → Core → Type 0
Same k k' = (τ : Assignment) → ModelOf k' τ ↔ ModelOf k τ

-- ---- one clause of a formula

abbrev SatC : Assignment → Clause → Type 0
SatC τ dropped = Unit {0}
SatC τ (standing C) = Sat τ C

-- every clause, by number
models_nth : (τ : Assignment) (f : List Clause) → Models τ f → (i : ℕ) → SatC τ (get_or f i dropped)
models_nth τ f M i = at (get_or f i dropped) refl
  where
    at : (c : Clause) → get_or f i dropped ≡ c → SatC τ c
    at dropped e = tt
    at (standing C) e = M C (nth_mem f i C e)

nth_models : (τ : Assignment) (f : List Clause) → ((i : ℕ) → SatC τ (get_or f i dropped)) → Models τ f
nth_models τ f all C m = let r = mem_get_d f dropped m in subst (SatC τ) r.2 (all r.0)

-- a formula with one clause replaced by one that is true under the same conditions
module _ (τ : Assignment) (f : List Clause) (i : ℕ) (c : Clause) where
  models_put : (SatC τ (get_or f i dropped) → SatC τ c) → Models τ f → Models τ (set f i c)
  models_put there M = nth_models τ (set f i c) (λ j.
      ⊎_elim
      (λ (e : j ≡ i).
      ⊎_elim
      (λ (out : length f ≤ i). subst (λ (g : List Clause). SatC τ (get_or g j dropped)) (sym (set_out f i c out)) (models_nth τ f M j))
      (λ (lt : i < length f). subst (SatC τ) (sym (ap (λ (k : ℕ). get_or (set f i c) k dropped) e ∙ get_or-set_same f i c dropped lt)) (there (models_nth τ f M i)))
      (le_or (length f) i))
      (λ (d : j ≡ i → ⊥). subst (SatC τ) (sym (get_or-set_other f i j c dropped d)) (models_nth τ f M j))
      (same_or j i))

  put_models : (SatC τ c → SatC τ (get_or f i dropped)) → Models τ (set f i c) → Models τ f
  put_models back M = nth_models τ f (λ j.
      ⊎_elim
      (λ (e : j ≡ i). subst (λ (k : ℕ). SatC τ (get_or f k dropped)) (sym e)
      (⊎_elim
      (λ (out : length f ≤ i). subst (λ (g : List Clause). SatC τ (get_or g i dropped)) (set_out f i c out) (models_nth τ (set f i c) M i))
      (λ (lt : i < length f). back (subst (SatC τ) (get_or-set_same f i c dropped lt) (models_nth τ (set f i c) M i)))
      (le_or (length f) i)))
      (λ (d : j ≡ i → ⊥). subst (SatC τ) (get_or-set_other f i j c dropped d) (models_nth τ (set f i c) M j))
      (same_or j i))

-- what an assignment meets besides clauses
abbrev Meets : Core → Assignment → Type 0
Meets k τ = ((s : ℕ) → value τ s ≡ value τ (k.class s)) × ((s : ℕ) → k.facts s ≡ true → True τ s)

put_same : (k : Core) (i : ℕ) (c : Clause) → ((τ : Assignment) → Meets k τ → SatC τ c ↔ SatC τ (core_clause k i)) → Same k (put i c k)
put_same k i c h τ = (
  λ S. record { unmarked = S.unmarked; models = put_models τ k.clauses i c (h τ (S.classes, S.met)).0 S.models; classes = S.classes; met = S.met },
  λ S. record { unmarked = S.unmarked; models = models_put τ k.clauses i c (h τ (S.classes, S.met)).1 S.models; classes = S.classes; met = S.met },
)

-- a clause that is true anyway may be dropped
drop_same : (k : Core) (i : ℕ) (C : List ℕ) → core_clause k i ≡ standing C → ((τ : Assignment) → Meets k τ → Sat τ C) → Same k (put i dropped k)
drop_same k i C e true-anyway = put_same k i dropped (λ τ m. (λ u. subst (SatC τ) (sym e) (true-anyway τ m), λ s. tt))

-- and one for another that is true under the same conditions
swap_same : (k : Core) (i : ℕ) (C D : List ℕ) → core_clause k i ≡ standing C → ((τ : Assignment) → Meets k τ → Sat τ D ↔ Sat τ C) → Same k (put i (standing D) k)
swap_same k i C D e h = put_same k i (standing D) (λ τ m. subst (λ (x : Clause). Sat τ D ↔ SatC τ x) (sym e) (h τ m))

-- a literal that is true in every assignment of what stands may get its value
learn_same : (k : Core) (l : ℕ) → ((τ : Assignment) → ModelOf k τ → True τ l) → Same k (learn (k.class l) k)
learn_same k l true-in τ = (
  λ S. record { unmarked = S.unmarked; models = S.models; classes = S.classes; met = λ s h. S.met s (ap (λ (b : Bool). eqb (k.class s) (k.class l) || b) h ∙ or-true (eqb (k.class s) (k.class l))) },
  λ S. record {
    unmarked = S.unmarked;
    models = S.models;
    classes = S.classes;
    met = λ s h. ⊎_elim (λ e. S.classes s ∙ ap (value τ) (eqb-true (k.class s) (k.class l) e) ∙ sym (S.classes l) ∙ true-in τ S) (λ o. S.met s o) (or_either (eqb (k.class s) (k.class l)) (k.facts s) h);
  },
)

-- a mark is right where nothing is left
marked_same : (k : Core) → ((τ : Assignment) → ModelOf k τ → ⊥) → Same k (marked_core k)
marked_same k none τ = (λ S. clash refl S.unmarked, λ S. absurd (none τ S))

-- ---- Propagate and Merge

module _ (k : Core) (τ : Assignment) (m : Meets k τ) where
  true_is : (l : ℕ) → core_true k l ≡ true → True τ l
  true_is l h = m.0 l ∙ m.1 (k.class l) h

  false_is : (l : ℕ) → core_false k l ≡ true → True τ l → ⊥
  false_is l h t = not_both τ (k.class l) (sym (m.0 l) ∙ t) (m.1 (twin (k.class l)) h)

-- a clause's one literal is true: it gets its value, and then the clause is true anyway
unit_same : (k : Core) (i l : ℕ) → core_clause k i ≡ standing (l ∷ []) → Same k (learn (k.class l) (put i dropped k))
unit_same k i l e τ =
    Iff.trans
    (drop_same (learn (k.class l) k) i (l ∷ []) e (λ υ M. (l, Memᴰ.head refl, M.1 l (ap (λ (b : Bool). b || k.facts l) (eq-eqb (k.class l) (k.class l) refl)))) τ)
    (learn_same k l (λ υ S.
    let r : Sat υ (l ∷ []) = subst (SatC υ) e (models_nth υ k.clauses S.models i) in
    subst (True υ) (⊎_elim (λ q. q) (λ n. absurd (Memᴰ.not-nil n)) (Memᴰ.cases_cons r.1)) r.2) τ)

change_same : {k k' : Core} → Change k k' → Same k k'
change_same {k} (satisfied i {C = C} {l = l} e m h) = drop_same k i C e (λ τ M. (l, m, true_is k τ M l h))
change_same {k} (falsified i {C = C} {D = D} e s left) =
    swap_same k i C D e (λ τ M. (λ h. (h.0, sub_mem s h.1, h.2), λ h. ⊎_elim (λ d. (h.0, d, h.2)) (λ f. absurd (false_is k τ M h.0 f h.2)) (left h.0 h.1)))
change_same {k} (unit i {l = l} e) = unit_same k i l e
change_same {k} (conflict i e) = marked_same k (λ τ S. let r : Sat τ [] = subst (SatC τ) e (models_nth τ k.clauses S.models i) in Memᴰ.not-nil r.1)
change_same {k} (contrary l there back) =
    marked_same k (λ τ S.
    ⊎_elim
    (λ t. not_both τ l t (reach_true k.clauses τ S.models there t))
    (λ t. not_both τ l (reach_true k.clauses τ S.models back t) t)
    (true_or τ l))
change_same {k} (grouped ρ owned both once) = λ τ. (
  λ S. record { unmarked = S.unmarked; models = S.models; classes = λ s. S.classes s ∙ equal τ S.models (k.class s); met = S.met },
  λ S. record { unmarked = S.unmarked; models = S.models; classes = λ s. S.classes s ∙ sym (equal τ S.models (k.class s)); met = S.met },
)
  where
    -- literals that reach each other have the same truth
    equal : (τ : Assignment) → Models τ k.clauses → (s : ℕ) → value τ (ρ s) ≡ value τ s
    equal τ M s = both_ways (value τ (ρ s)) (value τ s) (λ t. reach_true k.clauses τ M (both s).1 t) (λ t. reach_true k.clauses τ M (both s).0 t)
change_same {k} (substituted i {C = C} {D = D} e s all) =
    swap_same k i C D e (λ τ M. (
      λ h. let r = Memᴰ.of_map k.class C (sub_mem s h.1) in (r.0, r.1, M.0 r.0 ∙ ap (value τ) r.2 ∙ h.2),
      λ h. (k.class h.0, all (k.class h.0) (Memᴰ.map k.class h.1), sym (M.0 h.0) ∙ h.2),
    ))
change_same {k} (tautology i {C = C} {l = l} e m n) = drop_same k i C e (λ τ M. ⊎_elim (λ t. (l, m, t)) (λ t. (twin l, n, t)) (true_or τ l))

-- ---- any list of moves

-- fresh stamps are those of a formula whose sweep has come to what stands
abbrev pub Good : ℕ → Core → Freshness → Type 0
Good vars k spent = Unit {0}
Good vars k (fresh σ c) = Fresh vars σ c k.clauses

behind_kept : {vars : ℕ} {k k' : Core} {w w' : Freshness} → Behind vars k w k' w' → Good vars k w → Good vars k' w' × Same k k'
behind_kept spend g = (tt, λ τ. Iff.rfl)
behind_kept {vars} (failed {k = k} {σ = σ} {c = c} s lt e) g = (g, learn_same k (twin (failed_slot σ (2 * vars) s)) (λ τ S. failed_true vars σ c k.clauses g τ S.models s lt e))
behind_kept {vars} (opposite {k = k} {σ = σ} {c = c} s lt e h) g =
    (tt, marked_same k (λ τ S. false_is k τ (S.classes, S.met) (twin (failed_slot σ (2 * vars) s)) h (failed_true vars σ c k.clauses g τ S.models s lt e)))
behind_kept {vars} (sweep {k = k} {σ = σ} {c = c} n) g = (
  fresh_sweep vars σ c k.clauses g n,
  λ τ. let m = sweep_models vars σ c k.clauses g n τ in (
    λ S. record { unmarked = S.unmarked; models = m.0 S.models; classes = S.classes; met = S.met },
    λ S. record { unmarked = S.unmarked; models = m.1 S.models; classes = S.classes; met = S.met },
  ),
)

move_kept : {vars : ℕ} {k k' : Core} {w w' : Freshness} → Move vars k w k' w' → Good vars k w → Good vars k' w' × Same k k'
move_kept (change c) g = (tt, change_same c)
move_kept {vars} (stamp {k = k} order shaped list uncyclic) g = (fresh_stamp vars k.clauses order shaped list uncyclic, λ τ. Iff.rfl)
move_kept (behind m) g = behind_kept m g

pub moves_kept : {vars : ℕ} {k : Core} {w : Freshness} {k' : Core} {w' : Freshness} → Moves vars k w k' w' → Good vars k w → Good vars k' w' × Same k k'
moves_kept stay g = (g, λ τ. Iff.rfl)
moves_kept (go ms m) g =
    let one = moves_kept ms g in
    let two = move_kept m one.0 in
    (two.0, λ τ. Iff.trans (two.1 τ) (one.1 τ))

-- after any list of moves from a load, what stands has the loaded formula's satisfying assignments
pub demand_3 : {vars : ℕ} (f : List Clause) {k : Core} {w : Freshness} → Moves vars (load f) spent k w → (τ : Assignment) → ModelOf k τ ↔ Models τ f
demand_3 f ms τ =
    Iff.trans
    ((moves_kept ms tt).1 τ)
    (λ S. S.models, λ M. record { unmarked = refl; models = M; classes = λ s. refl; met = λ s h. clash h refl })
