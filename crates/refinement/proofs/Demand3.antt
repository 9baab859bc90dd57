-- DEMAND 3, over the calls as their users see them. After an accepted load or join and any list of Propagate, Merge, Stamp, Failed and Sweep calls and of calls that set a programme, refused ones included, with any orders, step counts and codes and any parts of the tables lent,
-- an assignment satisfies what stands exactly if it satisfies the loaded formula (`demand_3`), and every standing clause is the loaded one of its number with literals left out, class literals put in on both sides (`left_out`).
-- Assumes nothing.
use Prim.Native.Nat.{ℕ, suc, ◌*◌, ◌≤◌, ◌<◌}
use native.Mathlib.Nat.{min-le_left}
use native.Mathlib.Omega.{arith}
use mathlib.Core.Path.{◌≡◌, refl, sym, ap, subst, subst₂, ◌∙◌}
use mathlib.Core.Bool.{Bool, true, false}
use mathlib.Core.Logic.Iff
use mathlib.Core.Logic.{◌↔◌}
use mathlib.Core.List.Memᴰ
use mathlib.Core.List.{List, [], ◌∷◌, ◌++◌, map, Memᴰ, Sublistᴰ}
use lib.ListN.{length, get_or, drop, take, length-take, length-append, take-append-drop, get_or-append}
use lib.Seq.{get_or-take}
use lib.IntN.{ℤ, pos, nat_abs}
use Rattle.std.specs.Prelude.{Result}
use Rattle.base.proofs.Lists.{get_d_mem}
use Rattle.literal.proofs.Laws.{slot_variable}
use Rattle.literal.specs.Literals.{Literal, slot_of}
use Rattle.literal.specs.Clauses.{distinct, tautology}
use Rattle.literal.specs.Assignments.{Assignment, Satisfies}
use Rattle.state.specs.declared.State.{State}
use Rattle.state.specs.declared.Refusal.{Refusal}
use Rattle.state.specs.declared.Refusal.TheVariants as refusal
use Rattle.tables.specs.Tables.{Tables, tables}
use Rattle.tables.specs.Tables as T
use Rattle.tables.specs.Long.{Long}
use Rattle.tables.specs.Values.{class_literal}
use Rattle.tables.specs.Clauses.{literals_of}
use Rattle.tables.specs.Stands.{Stands}
use Rattle.tables.specs.Calls.{After, refuse}
use Rattle.shape.specs.Shape.{settled_to}
use Rattle.shape.specs.Decision.{shape_ok}
use Rattle.entry.specs.declared.PassName.TheVariants as own
use Rattle.entry.specs.declared.Entry.{Entry}
use Rattle.shape.proofs.Reading.{shaped}
use Rattle.entry.proofs.Entering.{entry_misshapen, opening_misshapen}
use Rattle.visits.proofs.Forming.{shape_formed, clause_fits}
use Rattle.literal.specs.Ranged.{InClauses}
use Rattle.propagate.specs.Propagate.{propagate_by, propagate_call}
use Rattle.merge.specs.Merge.{merge_by, merge_call}
use Rattle.stamp.specs.Stamp.{stamp_by, stamp_call}
use Rattle.failed.specs.Failed.{failed_by, failed_call}
use Rattle.sweep.specs.Sweep.{sweep_by, sweep_call}
use Rattle.set_programme.proofs.Setting.{set_misshapen}
use Rattle.call_lists.specs.Lists.{Call, propagate, merge, stamp, failed, sweep, programme, Lent, lend, give_back, call_on, Step, step_on, steps_on}
use Rattle.call_lists.specs.Starts.{Started, formula, begun, after}
use Rattle.sound.specs.Formula.{Clause, dropped, standing}
use Rattle.moves.specs.Core.{Core}
use Rattle.moves.specs.Moves.{Freshness}
use Rattle.moves.proofs.Keeps as kept
use Rattle.moves.proofs.Traced.{only_left_out}
use Rattle.repeats.proofs.Repeats.{All, distinct_all}
use Rattle.refinement.proofs.Literals.{class_is}
use Rattle.refinement.proofs.Standing.{stands_clause}
use Rattle.refinement.proofs.Laid.{nth}
use Rattle.refinement.proofs.LaidFormed.{in_nth}
use Rattle.refinement.proofs.Equivalent.{tie}
use Rattle.refinement.proofs.Held.{HeldBy, Held, load_lasting, propagate_held, merge_held}
use Rattle.refinement.proofs.HeldStamp.{stamp_held}
use Rattle.refinement.proofs.HeldSweep.{sweep_held}
use Rattle.refinement.proofs.HeldProgramme.{programme_held}
use Rattle.refinement.proofs.HeldFailed.{failed_held}
use Rattle.refinement.proofs.Loaded.{loaded_clauses, loaded_at, loaded_below, loaded_length, for_standing, all_member, above, models_satisfies, satisfies_models}
use Rattle.refinement.proofs.Starting.{started_laid, start_held}
use Rattle.refinement.proofs.Fronts.{Fronts, held_same}

-- ---- one call

call_held : {f : List Clause} (c : Call) (t : Tables) (st : State) → Held f t st → Held f (call_on c t st).tables (call_on c t st).state
call_held (propagate steps) t st H = propagate_held steps t st H
call_held (merge steps) t st H = merge_held steps t st H
call_held (stamp order) t st H = stamp_held order t st H
call_held {f} failed t st H = failed_held (load_lasting f) t st H
call_held {f} (sweep steps) t st H = sweep_held (load_lasting f) steps t st H
call_held (programme codes) t st H = programme_held codes t st H

-- a call on tables that break the shape rule, short ones among them, changes nothing
pub call_refused : (c : Call) (t : Tables) (st : State) → shape_ok t st ≡ false → call_on c t st ≡ refuse refusal.Shape st t
unfolding propagate_call merge_call stamp_call failed_call sweep_call
call_refused (propagate steps) t st e = ap (λ (x : Result Entry Refusal). propagate_by x steps t st) (entry_misshapen own.Propagate t st e)
call_refused (merge steps) t st e = ap (λ (x : Result Entry Refusal). merge_by x steps t st) (entry_misshapen own.Merge t st e)
call_refused (stamp order) t st e = ap (λ (x : Result (Unit {0}) Refusal). stamp_by x order t st) (opening_misshapen t st e)
call_refused failed t st e = ap (λ (x : Result (Unit {0}) Refusal). failed_by x t st) (opening_misshapen t st e)
call_refused (sweep steps) t st e = ap (λ (x : Result Entry Refusal). sweep_by x steps t st) (entry_misshapen own.Sweep t st e)
call_refused (programme codes) t st e = sym (set_misshapen codes t st e)

-- ---- what is lent, and given back

taken : {A : Type 0} (k size : ℕ) (l : List A) → size ≤ length (take k l) → size ≤ k
taken k size l h = omega (arith, h, length-take k l, min-le_left k (length l))

pub lent_fronts : (k : Lent) (t : Tables) → Long (lend k t) → Fronts t (lend k t)
lent_fronts k t L = record {
  long = L;
  clauses = λ i h. get_or-take k.clauses t.clauses i 0 (omega (arith, h, taken k.clauses 12288 t.clauses L.clauses));
  literals = λ i h. get_or-take k.literals t.literals i (pos 0) (omega (arith, h, taken k.literals 16384 t.literals L.literals));
  variables = λ i h. get_or-take k.variables t.variables i (pos 0) (omega (arith, h, taken k.variables 2048 t.variables L.variables));
  times = λ i h. get_or-take k.times t.times i 0 (omega (arith, h, taken k.times 4096 t.times L.times));
  links = λ i h. get_or-take k.links t.links i (pos 0) (omega (arith, h, taken k.links 4096 t.links L.links));
}

longer : {A : Type 0} (size : ℕ) (xs ys : List A) → size ≤ length xs → size ≤ length (xs ++ ys)
longer size xs ys h = omega (arith, h, length-append xs ys)

pub back_fronts : (k : Lent) (t u : Tables) → Long u → Fronts u (give_back k t u)
back_fronts k t u L = record {
  long = record {
    clauses = longer 12288 u.clauses (drop k.clauses t.clauses) L.clauses;
    literals = longer 16384 u.literals (drop k.literals t.literals) L.literals;
    variables = longer 2048 u.variables (drop k.variables t.variables) L.variables;
    times = longer 4096 u.times (drop k.times t.times) L.times;
    links = longer 4096 u.links (drop k.links t.links) L.links;
  };
  clauses = λ i h. get_or-append u.clauses (drop k.clauses t.clauses) 0 i (omega (arith, h, L.clauses));
  literals = λ i h. get_or-append u.literals (drop k.literals t.literals) (pos 0) i (omega (arith, h, L.literals));
  variables = λ i h. get_or-append u.variables (drop k.variables t.variables) (pos 0) i (omega (arith, h, L.variables));
  times = λ i h. get_or-append u.times (drop k.times t.times) 0 i (omega (arith, h, L.times));
  links = λ i h. get_or-append u.links (drop k.links t.links) (pos 0) i (omega (arith, h, L.links));
}

pub back_same : (k : Lent) (t : Tables) → give_back k t (lend k t) ≡ t
back_same k t = λ i. tables (take-append-drop k.clauses t.clauses i) (take-append-drop k.literals t.literals i) (take-append-drop k.variables t.variables i) (take-append-drop k.times t.times i) (take-append-drop k.links t.links i)

-- ---- lists of calls

-- what a call keeps on the tables that it is lent, it keeps on the whole
pub step_held : {P : ℕ → Core → Freshness → Type 0} (s : Step) (t : Tables) (st : State) → ((u : Tables) → HeldBy P u st → HeldBy P (call_on s.call u st).tables (call_on s.call u st).state)
    → HeldBy P t st → HeldBy P (step_on s t st).tables (step_on s t st).state
unfolding step_on
step_held {P} s t st keeps H = by (shape_ok (lend s.lent t) st) refl
  where
    a : After
    a = call_on s.call (lend s.lent t) st

    by : (b : Bool) → shape_ok (lend s.lent t) st ≡ b → HeldBy P (give_back s.lent t a.tables) a.state
    by true e =
        let lent = held_same (lent_fronts s.lent t (shaped (lend s.lent t) st e).long) H in
        let after = keeps (lend s.lent t) lent in
        held_same (back_fronts s.lent t a.tables after.shape.long) after
    by false e =
        subst (λ (x : After). HeldBy P (give_back s.lent t x.tables) x.state) (sym (call_refused s.call (lend s.lent t) st e))
        (subst (λ (u : Tables). HeldBy P u st) (sym (back_same s.lent t)) H)

pub steps_held : {f : List Clause} (ss : List Step) (t : Tables) (st : State) → Held f t st → Held f (steps_on ss t st).tables (steps_on ss t st).state
unfolding steps_on
steps_held [] t st H = H
steps_held (s ∷ ss) t st H = steps_held ss (step_on s t st).tables (step_on s t st).state (step_held s t st (λ u. call_held s.call u st) H)

-- ---- lists of literals

all_places : (P : ℤ → Type 0) (C : List ℤ) → ((k : ℕ) → k < length C → P (get_or C k (pos 0))) → All P C
all_places P [] h = tt
all_places P (x ∷ C) h = (h 0 (omega arith), all_places P C (λ k l. h (suc k) (omega (arith, l))))

all_members : (P : ℤ → Type 0) (C : List ℤ) → ((l : ℤ) → Memᴰ l C → P l) → All P C
all_members P [] h = tt
all_members P (x ∷ C) h = (h x (Memᴰ.head refl), all_members P C (λ l m. h l (Memᴰ.tail m)))

-- ---- the theorem

module _ (b : Started) (ss : List Step) where
  abbrev t' : Tables
  t' = (after b ss).tables

  abbrev st' : State
  st' = (after b ss).state

  pub held : Held (loaded_clauses (formula b)) t' st'
  held = steps_held ss (begun b).tables (begun b).state (start_held b)

  -- the loaded literals are those of its variables
  in_range_lem : InClauses (started_laid b).v (formula b)
  in_range_lem = (started_laid b).within.each

  pub demand_3 : (τ : Assignment) → Stands t' st' τ ↔ Satisfies τ (formula b)
  demand_3 τ =
      Iff.trans (tie st' t' held.core (settled_to st'.pass st'.n) (shape_formed held.shape) held.shape.values held.tied τ)
      (Iff.trans (kept.demand_3 (loaded_clauses (formula b)) held.so.moves τ)
      (models_satisfies (started_laid b).v τ (formula b) in_range_lem, satisfies_models (started_laid b).v τ (formula b) in_range_lem))

  -- ---- literals left out

  -- the class literals of a list, on slots
  abbrev through : List ℤ → List ℕ
  through C = map (λ l. slot_of (class_literal t'.variables l)) C

  through_classes : (C : List ℤ) → All (Literal st'.v) C → map held.core.class (map slot_of C) ≡ through C
  through_classes [] A = refl
  through_classes (l ∷ C) A = λ i. class_is held.tied (shape_formed held.shape).vars l A.0 i ∷ through_classes C A.1 i

  pub left_out : (i : ℕ) → i < st'.n → T.standing t'.clauses i ≡ 1
      → (tautology (nth (formula b) i) ≡ false) × Sublistᴰ (through (literals_of t'.clauses t'.literals i)) (through (distinct (nth (formula b) i)))
  left_out i h stood =
      let D = literals_of t'.clauses t'.literals i in
      let r = (only_left_out (loaded_clauses (formula b)) held.so.moves).part i (map slot_of D) (held.tied.clauses i h ∙ stands_clause t'.clauses t'.literals i stood) in
      let lt : i < length (formula b) = loaded_below (formula b) i r.1 in
      let q = for_standing (nth (formula b) i) (sym (loaded_at (formula b) i lt) ∙ r.1) in
      (q.0, subst₂ Sublistᴰ (through_classes D ranged) (ap (map held.core.class) (sym q.1) ∙ through_classes (distinct (nth (formula b) i)) (loaded_ranged i lt r.1 q.1)) r.2)
    where
      ranged : All (Literal st'.v) (literals_of t'.clauses t'.literals i)
      ranged = all_places (Literal st'.v) (literals_of t'.clauses t'.literals i) (clause_fits (shape_formed held.shape) i h).ranged

      -- a slot of a variable is that of a literal
      literal_of : (l : ℤ) → 0 < nat_abs l → slot_of l < 2 * st'.v → Literal st'.v l
      literal_of l a b = record { above = a; within = omega (arith, slot_variable l a, b) }

      loaded_ranged : (j : ℕ) → j < length (formula b) → {C : List ℕ} → get_or (loaded_clauses (formula b)) j dropped ≡ standing C → map slot_of (distinct (nth (formula b) j)) ≡ C → All (Literal st'.v) (distinct (nth (formula b) j))
      loaded_ranged j lt {C} e q =
          let c = nth (formula b) j in
          let real = distinct_all (λ x. 0 < nat_abs x) c (above (started_laid b).v c (in_nth (started_laid b).v (formula b) j in_range_lem lt)) in
          all_members (Literal st'.v) (distinct c)
          (λ l m. literal_of l (all_member (λ x. 0 < nat_abs x) (distinct c) real l m)
          (held.so.within C (subst (λ (x : Clause). Memᴰ x (loaded_clauses (formula b))) e (get_d_mem (loaded_clauses (formula b)) j dropped (omega (arith, lt, loaded_length (formula b))))) (slot_of l) (subst (Memᴰ (slot_of l)) q (Memᴰ.map slot_of m))))
