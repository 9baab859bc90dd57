-- Stamp keeps the invariant of a list of calls: its records are the stamps of what stands. Assumes nothing.
use Prim.Native.Nat.{ℕ, ◌*◌}
use mathlib.Core.Path.{◌≡◌, refl, sym, ap, subst, ◌∙◌}
use mathlib.Core.Bool.{Bool, true, false}
use mathlib.Core.List.{List, map}
use lib.IntN.{ℤ}
use Rattle.std.specs.Prelude.{Result, Ok, Err}
use Rattle.literal.specs.Literals.{slot_of}
use Rattle.walk.specs.Walk.{Stamps, Lists}
use Rattle.implications.specs.Clauses.{implications}
use Rattle.scc.specs.Groups.{cyclic}
use Rattle.state.specs.declared.State.{State}
use Rattle.state.specs.declared.Pass.{Pass}
use Rattle.state.specs.declared.Refusal.{Refusal}
use Rattle.tables.specs.Tables.{Tables}
use Rattle.tables.specs.Clauses.{slots_from}
use Rattle.tables.specs.Calls.{After}
use Rattle.shape.specs.Shape.{settled_to}
use Rattle.visits.specs.Formed.{Formed}
use Rattle.visits.proofs.Forming.{shape_formed}
use Rattle.stamp.specs.Stamp.{stamps_of, stamped_tables, stamp_fresh, stamp_acyclic, stamp_call}
use Rattle.stamp.specs.Asking.{ask_of}
use Rattle.stamp.proofs.Asking.{Known, fit_known, known_proper, call_refused, call_fit, acyclic_no, acyclic_yes}
use Rattle.stamp.proofs.Writing.{full_ordered}
use Rattle.stamp.proofs.Freshness.{discoveries_size, finishes_size, parents_size, starts_size}
use Rattle.stamp.proofs.Shaped.{fresh_shaped}
use Rattle.sound.specs.Formula.{Clause, formula_stamps}
use Rattle.moves.specs.Core.{Core}
use Rattle.moves.specs.Moves.{Freshness, fresh, Move, stamp, go}
use Rattle.moves.proofs.Records.{stamped_agree}
use Rattle.refinement.specs.Represented.{Represented}
use Rattle.refinement.proofs.Shaping.{shaped_of, graph_of, slots_of}
use Rattle.refinement.proofs.Held.{from, HeldBy, Held}

-- a call that finds nothing to refuse, on tables that hold a core
module _ {order : List ℤ} {t : Tables} {st : State} (K : Known order t st) (k : Core) (R : Represented st.v st.n st.mark t k) where
  abbrev σ : Stamps
  σ = stamps_of (slots_from t.clauses t.literals st.n 0) (2 * st.v) (map slot_of order)

  formed : Formed st.v st.n st.n false t.clauses t.literals t.variables
  formed =
      subst (λ (b : Bool). Formed st.v st.n st.n b t.clauses t.literals t.variables) K.unmarked
      (subst (λ (p : Pass). Formed st.v st.n (settled_to p st.n) st.mark t.clauses t.literals t.variables) K.idle (shape_formed K.shape))

  plain : Represented st.v st.n false t k
  plain = subst (λ (b : Bool). Represented st.v st.n b t k) K.unmarked R

  -- the stamps of the tables are those of what they represent
  same_stamps : formula_stamps st.v (map slot_of order) k.clauses ≡ σ
  same_stamps = ap (λ (cs : List (List ℕ)). stamps_of cs (2 * st.v) (map slot_of order)) (slots_of formed plain)

  lists : Lists (2 * st.v) (map slot_of order)
  lists = let O = full_ordered K.full in record { below = O.below; all = O.all }

  -- the move that it is
  pub stamps_move : cyclic (implications (slots_from t.clauses t.literals st.n 0)) (2 * st.v) ≡ false → (w : Freshness) → Move st.v k w k (fresh σ 0)
  stamps_move acyclic w =
      subst (λ (x : Stamps). Move st.v k w k (fresh x 0)) same_stamps
      (stamp (map slot_of order) (shaped_of formed plain) lists (ap (λ (adj : ℕ → List ℕ). cyclic adj (2 * st.v)) (graph_of formed plain) ∙ acyclic))

  -- the tables that it leaves hold what the tables before held, under the new stamps
  pub stamped_held : {P : ℕ → Core → Freshness → Type 0} → P st.v k (fresh σ 0) → HeldBy P (stamp_fresh order t st).tables (stamp_fresh order t st).state
  unfolding stamped_tables
  stamped_held so = record {
    core = k;
    stamped = fresh σ 0;
    so = so;
    shape = fresh_shaped K;
    tied = record { number = plain.number; clauses = plain.clauses; classes = plain.classes; facts = plain.facts; beyond = plain.beyond; marks = plain.marks };
    stamps = from σ 0 (stamped_agree st.v σ t (discoveries_size (known_proper K) K.full) (finishes_size (known_proper K) K.full) (parents_size (known_proper K) K.full) (starts_size (known_proper K) K.full)) refl;
  }

pub stamp_held : {f : List Clause} (order : List ℤ) (t : Tables) (st : State) → Held f t st → Held f (stamp_call order t st).tables (stamp_call order t st).state
stamp_held {f} order t st H = by (ask_of order t st) refl
  where
    So : After → Type 0
    So a = Held f a.tables a.state

    walked : Known order t st → (b : Bool) → cyclic (implications (slots_from t.clauses t.literals st.n 0)) (2 * st.v) ≡ b → So (stamp_acyclic order t st)
    walked K true e = subst So (sym (acyclic_no order t st e)) H
    walked K false e = subst So (sym (acyclic_yes order t st e)) (stamped_held K H.core H.tied (record { moves = go H.so.moves (stamps_move K H.core H.tied e H.stamped); within = H.so.within }))

    by : (r : Result (Unit {0}) Refusal) → ask_of order t st ≡ r → So (stamp_call order t st)
    by (Err r) e = subst So (call_refused order t st r e) H
    by (Ok _) e = subst So (call_fit order t st e) (walked (fit_known t st order e) (cyclic (implications (slots_from t.clauses t.literals st.n 0)) (2 * st.v)) refl)
