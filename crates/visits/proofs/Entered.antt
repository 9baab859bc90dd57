-- What a call that is not refused knows of the tables: they are formed, without the mark, and every clause is settled unless a Merge is open. Assumes nothing.
use Prim.Native.Nat.{ℕ}
use mathlib.Core.Path.{◌≡◌, refl, subst}
use mathlib.Core.Bool.{Bool, false}
use Rattle.state.specs.declared.State.{State}
use Rattle.state.specs.declared.Pass.{Pass}
use Rattle.state.specs.declared.Pass.TheVariants.{Idle, Propagate, Merge, Sweep}
use Rattle.tables.specs.Tables.{Tables}
use Rattle.shape.specs.Shape.{settled_to, Cursor}
use Rattle.entry.proofs.Entering.{Entered}
use Rattle.visits.specs.Formed.{Formed}
use Rattle.visits.proofs.Forming.{shape_formed}

-- no Merge is open
abbrev pub NoMerge : Pass → Type 0
NoMerge Idle = Unit
NoMerge (Propagate k changed) = Unit
NoMerge (Merge k) = ⊥
NoMerge (Sweep k) = Unit

all_settled : (p : Pass) (n : ℕ) → NoMerge p → settled_to p n ≡ n
all_settled Idle n d = refl
all_settled (Propagate k changed) n d = refl
all_settled (Merge k) n d = absurd d
all_settled (Sweep k) n d = refl

module _ {p : Pass} {t : Tables} {st : State} (E : Entered p t st) where
  -- formed, by the pass that is open
  pub entered_to : Formed st.v st.n (settled_to p st.n) false t.clauses t.literals t.variables
  entered_to =
      subst (λ (b : Bool). Formed st.v st.n (settled_to p st.n) b t.clauses t.literals t.variables) E.unmarked
      (subst (λ (q : Pass). Formed st.v st.n (settled_to q st.n) st.mark t.clauses t.literals t.variables) E.pass (shape_formed E.shape))

  pub entered_formed : NoMerge p → Formed st.v st.n st.n false t.clauses t.literals t.variables
  entered_formed d = subst (λ (s : ℕ). Formed st.v st.n s false t.clauses t.literals t.variables) (all_settled p st.n d) entered_to

  pub entered_cursor : Cursor p st.n false
  entered_cursor = subst (λ (q : Pass). Cursor q st.n false) E.pass (subst (Cursor st.pass st.n) E.unmarked E.shape.cursor)
