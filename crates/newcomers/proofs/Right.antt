-- CHANGE REQUEST 1: "a shortened one is true under the same assignments as before, among those that satisfy what stands, and a dropped one is true under all of these."
-- THE LAW: of tables that hold what a list of calls has left (`Held`), what the call of a learnt clause makes of the newcomer is right (`learn_right`), any parts of the tables lent (`lent_right`) and any number of newcomers in a row (`run_right`).
-- The window is any, refused ones included. Assumes nothing.
use Rattle.std.specs.Prelude.{Ok}
use Prim.Native.Nat.{ℕ, ◌<◌}
use native.Mathlib.Omega.{arith}
use mathlib.Core.Path.{◌≡◌, refl, sym, ap, subst, ◌∙◌}
use mathlib.Core.Bool.{false}
use mathlib.Core.List.{List, [], ◌∷◌, Sublistᴰ}
use lib.ListN.{length, get_or}
use lib.IntN.{ℤ}
use Rattle.literal.specs.Assignments.{Assignment, some_true}
use Rattle.state.specs.Answers.{Reply, reply_of}
use Rattle.state.specs.declared.State.{State}
use Rattle.state.specs.declared.Refusal.{Refusal}
use Rattle.state.specs.declared.Answer.TheVariants.{KeptWhole, KeptShort, NotKept}
use Rattle.tables.specs.Tables.{Tables}
use Rattle.tables.specs.Stands.{Stands}
use Rattle.tables.specs.Calls.{answered}
use Rattle.tables.specs.Fates as fate
use Rattle.shape.specs.Shape.{Shape, settled_to}
use Rattle.window.specs.Window.{Places, after_window, refuse_with, keep, youngest}
use Rattle.window.proofs.Kept.{keep_youngest}
use Rattle.visits.specs.Formed.{FitClause}
use Rattle.visits.proofs.Forming.{shape_formed}
use Rattle.learn.specs.Learn.{learn_call}
use Rattle.sound.specs.Formula.{Clause}
use Rattle.moves.specs.Core.{Core, ModelOf}
use Rattle.moves.specs.Moves.{Freshness}
use Rattle.call_lists.specs.Lists.{Lent, lend}
use Rattle.refinement.proofs.Equivalent.{tie}
use Rattle.refinement.proofs.Held.{HeldBy, Held}
use Rattle.refinement.proofs.Fronts.{Fronts, held_same}
use Rattle.refinement.proofs.Demand3.{lent_fronts}
use Rattle.newcomers.specs.Learning.{Right, RunRight}
use Rattle.newcomers.proofs.Kept.{newcomer_dropped, newcomer_left}
use Rattle.learn.proofs.Cases.{Taken, Short, fate_in, newcomer_fits, learn_ways}
use Rattle.learn.proofs.Ruled.{other_kind}

-- the literals left, by a reply
same_left : (m n : ℕ) → reply_of (Ok (KeptShort m)) ≡ reply_of (Ok (KeptShort n)) → m ≡ n
same_left m n e = ap (λ (r : Reply). get_or r.values 1 0) e

same_kept : (m n : ℕ) → reply_of (Ok (KeptWhole m)) ≡ reply_of (Ok (KeptWhole n)) → m ≡ n
same_kept m n e = ap (λ (r : Reply). get_or r.values 1 0) e

-- ---- one newcomer

-- the call is on u, and is judged by what stands in t: where u keeps the shape rule it holds the same
module _ {f : List Clause} (t u : Tables) (st : State) (held : Shape u st → Held f u st) (carry : Shape u st → (τ : Assignment) → Stands t st τ → Stands u st τ) (C : List ℤ) (w : Places) where
  refused_right : (r : Refusal) → Right t st C (refuse_with r u st w)
  refused_right r = record { dropped = other_kind (λ k. omega arith); shortened = λ n. other_kind (λ k. omega arith); left_out = λ n. other_kind (λ k. omega arith); whole = λ n. other_kind (λ k. omega arith) }

  whole_right : Taken C u st w → Right t st C (after_window (answered (KeptWhole (length C)) st u) (keep C w))
  whole_right T = record {
    dropped = other_kind (λ k. omega arith);
    shortened = λ n. other_kind (λ k. omega arith);
    left_out = λ n. other_kind (λ k. omega arith);
    whole = λ n e. (keep_youngest T.rule T.newcomer, same_kept (length C) n e);
  }

  short_right : Taken C u st w → (D : List ℤ) → Short C D u st → Right t st C (after_window (answered (KeptShort (length D)) st u) (keep D w))
  short_right T D S = record {
    dropped = other_kind (λ k. omega arith);
    shortened = λ n e τ stands. ap (some_true τ) now ∙ newcomer_left (held T.shape) T.fresh C F.ranged F.once D S.fate τ (carry T.shape τ stands);
    left_out = λ n e. (subst (λ (E : List ℤ). Sublistᴰ E C) (sym now) S.part, ap length now ∙ same_left (length D) n e, subst (λ (m : ℕ). m < length C) (same_left (length D) n e) S.less);
    whole = λ n. other_kind (λ k. omega arith);
  }
    where
      F : FitClause st.v [] false C
      F = newcomer_fits T.newcomer

      now : youngest (keep D w) ≡ D
      now = keep_youngest T.rule S.newcomer

  dropped_right : Taken C u st w → fate_in u C ≡ fate.dropped → Right t st C (after_window (answered NotKept st u) w)
  dropped_right T e = record {
    dropped = λ q τ stands. newcomer_dropped (held T.shape) T.fresh C F.ranged F.once e τ (carry T.shape τ stands);
    shortened = λ n. other_kind (λ k. omega arith);
    left_out = λ n. other_kind (λ k. omega arith);
    whole = λ n. other_kind (λ k. omega arith);
  }
    where
      F : FitClause st.v [] false C
      F = newcomer_fits T.newcomer

  right_by : Right t st C (learn_call C u st w)
  right_by = learn_ways C u st w (Right t st C) refused_right whole_right short_right dropped_right

pub learn_right : {f : List Clause} (t : Tables) (st : State) → Held f t st → (C : List ℤ) (w : Places) → Right t st C (learn_call C t st w)
learn_right t st H C w = right_by t t st (λ S. H) (λ S τ stands. stands) C w

-- ---- where parts of the tables are lent

-- tables with the same fronts are satisfied alike
stands_same : {P : ℕ → Core → Freshness → Type 0} {t u : Tables} {st : State} → HeldBy P t st → Fronts t u → (τ : Assignment) → Stands t st τ → Stands u st τ
stands_same {P} {t} {u} {st} H A τ stands = (tie st u other.core (settled_to st.pass st.n) (shape_formed other.shape) other.shape.values other.tied τ).1 (subst (λ (k : Core). ModelOf k τ) (sym other.so) model)
  where
    model : ModelOf H.core τ
    model = (tie st t H.core (settled_to st.pass st.n) (shape_formed H.shape) H.shape.values H.tied τ).0 stands

    -- what the other tables hold is the same
    other : HeldBy (λ v k s. k ≡ H.core) u st
    other = held_same A (record { core = H.core; stamped = H.stamped; so = refl; shape = H.shape; tied = H.tied; stamps = H.stamps })

pub lent_right : {f : List Clause} (t : Tables) (st : State) → Held f t st → (lent : Lent) (C : List ℤ) (w : Places) → Right t st C (learn_call C (lend lent t) st w)
lent_right t st H lent C w = right_by t (lend lent t) st (λ S. held_same (fronts S) H) (λ S. stands_same H (fronts S)) C w
  where
    fronts : Shape (lend lent t) st → Fronts t (lend lent t)
    fronts S = lent_fronts lent t S.long

-- ---- a run of newcomers

pub run_right : {f : List Clause} (t : Tables) (st : State) → Held f t st → (Cs : List (List ℤ)) (w : Places) → RunRight Cs t st w
run_right t st H [] w = tt
run_right t st H (C ∷ Cs) w = (learn_right t st H C w, run_right t st H Cs (learn_call C t st w).window)
