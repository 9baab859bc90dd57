-- What the contract of `stamp` says of the lent records, as the contracts of the other calls say it: after the call the tables with these records are those of the definition; a refusal leaves every record, and any call the later ones. Assumes nothing.
use Prim.Native.Nat.{ℕ, ◌*◌}
use native.Mathlib.Nat.{min-le_left}
use native.Mathlib.Omega.{arith}
use mathlib.Core.Path.{◌≡◌, refl, sym, ◌∙◌, ap, subst}
use mathlib.Core.Bool.{Bool, true, false}
use mathlib.Core.List.{List, map}
use lib.IntN.{ℤ}
use lib.ListN.{length, take, drop, length-take}
use Rattle.std.specs.Prelude.{Result, Ok, Err}
use Rattle.literal.specs.Literals.{slot_of}
use Rattle.implications.specs.Clauses.{implications}
use Rattle.scc.specs.Groups.{cyclic}
use Rattle.state.specs.declared.State.{State}
use Rattle.state.specs.declared.Outcome.{Outcome}
use Rattle.state.specs.declared.Refusal.{Refusal}
use Rattle.stamp_records.specs.declared.StampRecord.{StampRecord}
use Rattle.stamp_records.specs.Records.{times_of, links_of, records_in}
use Rattle.stamp_records.proofs.Over.{length_pairs}
use Rattle.stamp_records.proofs.Packed.{packed_own, columns_records, columns_packed, over_past}
use Rattle.tables.specs.Tables.{Tables}
use Rattle.tables.specs.Clauses.{slots_from}
use Rattle.tables.specs.Calls.{After, after, refuse}
use Rattle.stamp.specs.Stamp.{stamps_of, stamped_tables, stamp_acyclic, stamp_call}
use Rattle.stamp.specs.Asking.{ask_of}
use Rattle.stamp.proofs.Asking.{Known, fit_known, known_proper, known_records, call_refused, call_fit, acyclic_no, acyclic_yes}
use Rattle.stamp.proofs.Freshness.{times_long, links_long}
use Rattle.calls.specs.Calls.{recorded, AfterStamp, after_stamp, in_records}

-- the tables that Stamp only reads, and as many stamps
pub record Kept (t u : Tables) : Type 0 where
  pub clauses : t.clauses ≡ u.clauses
  pub literals : t.literals ≡ u.literals
  pub variables : t.variables ≡ u.variables
  pub times : length u.times ≡ length t.times
  pub links : length u.links ≡ length t.links

unchanged : (t : Tables) → Kept t t
unchanged t = record { clauses = refl; literals = refl; variables = refl; times = refl; links = refl }

module _ (order : List ℤ) (t : Tables) (st : State) where
  written : Known order t st → Kept t (stamped_tables st.v (stamps_of (slots_from t.clauses t.literals st.n 0) (2 * st.v) (map slot_of order)) t)
  unfolding stamped_tables
  written K = record {
    clauses = refl;
    literals = refl;
    variables = refl;
    times = times_long (known_proper K) K.full t (known_records K).first;
    links = links_long (known_proper K) K.full t (known_records K).second;
  }

  acyclic_kept : Known order t st → Kept t (stamp_acyclic order t st).tables
  acyclic_kept K = go (cyclic (implications (slots_from t.clauses t.literals st.n 0)) (2 * st.v)) refl
    where
      go : (b : Bool) → cyclic (implications (slots_from t.clauses t.literals st.n 0)) (2 * st.v) ≡ b → Kept t (stamp_acyclic order t st).tables
      go true e = subst (λ (a : After). Kept t a.tables) (sym (acyclic_no order t st e)) (unchanged t)
      go false e = subst (λ (a : After). Kept t a.tables) (sym (acyclic_yes order t st e)) (written K)

  pub stamp_kept : Kept t (stamp_call order t st).tables
  stamp_kept = by (ask_of order t st) refl
    where
      by : (r : Result (Unit {0}) Refusal) → ask_of order t st ≡ r → Kept t (stamp_call order t st).tables
      by (Err r) e = subst (λ (a : After). Kept t a.tables) (call_refused order t st r e) (unchanged t)
      by (Ok _) e = subst (λ (a : After). Kept t a.tables) (call_fit order t st e) (acyclic_kept (fit_known t st order e))

-- THE LAW: the contract's equation gives the one over the tables, so that a later call's contract goes on from there
pub stamp_recorded : (order : List ℤ) (clauses : List ℕ) (literals variables : List ℤ) (stamps : List StampRecord) (st : State) (o : Outcome) (stamps' : List StampRecord)
    → after_stamp o stamps' ≡ in_records (stamp_call order (recorded clauses literals variables stamps) st) stamps
    → after o (recorded clauses literals variables stamps') ≡ stamp_call order (recorded clauses literals variables stamps) st
stamp_recorded order clauses literals variables stamps st o stamps' e = λ i. record {
  reply = (e i).reply;
  state = (e i).state;
  tables = record { clauses = K.clauses i; literals = K.literals i; variables = K.variables i; times = times_are i; links = links_are i };
}
  where
    a : After
    a = stamp_call order (recorded clauses literals variables stamps) st

    K : Kept (recorded clauses literals variables stamps) a.tables
    K = stamp_kept order (recorded clauses literals variables stamps) st

    packed_are : (times_of stamps' ≡ a.tables.times) × (links_of stamps' ≡ a.tables.links)
    packed_are =
        let columns = columns_packed a.tables.times a.tables.links stamps
        (K.times ∙ length_pairs (λ (r : StampRecord). r.discovery) (λ (r : StampRecord). r.finish) (take 2048 stamps))
        (K.links ∙ length_pairs (λ (r : StampRecord). r.parent) (λ (r : StampRecord). r.start) (take 2048 stamps)) in
        (ap (λ (s : AfterStamp). times_of s.stamps) e ∙ columns.0, ap (λ (s : AfterStamp). links_of s.stamps) e ∙ columns.1)

    times_are : times_of stamps' ≡ a.tables.times
    times_are = packed_are.0

    links_are : links_of stamps' ≡ a.tables.links
    links_are = packed_are.1

-- "A refusal .. changes nothing": the records are as they were
pub stamp_refused : (r : Refusal) (clauses : List ℕ) (literals variables : List ℤ) (stamps : List StampRecord) (st : State) → in_records (refuse r st (recorded clauses literals variables stamps)) stamps ≡ after_stamp (record { answer = Err r; state = st }) stamps
stamp_refused r clauses literals variables stamps st = ap (after_stamp (record { answer = Err r; state = st })) (packed_own stamps)

-- "extra places stay": so do the records past the 2,048th
pub stamp_later : (order : List ℤ) (clauses : List ℕ) (literals variables : List ℤ) (stamps : List StampRecord) (st : State)
    → drop 2048 (in_records (stamp_call order (recorded clauses literals variables stamps) st) stamps).stamps ≡ drop 2048 stamps
stamp_later order clauses literals variables stamps st = over_past 2048 (records_in u.times u.links) stamps (omega (arith, many, length-take 2048 stamps, min-le_left 2048 (length stamps)))
  where
    u : Tables
    u = (stamp_call order (recorded clauses literals variables stamps) st).tables

    many : length (records_in u.times u.links) ≡ length (take 2048 stamps)
    many =
        let K = stamp_kept order (recorded clauses literals variables stamps) st in
        (columns_records (length (take 2048 stamps)) u.times u.links (K.times ∙ length_pairs (λ (r : StampRecord). r.discovery) (λ (r : StampRecord). r.finish) (take 2048 stamps))
        (K.links ∙ length_pairs (λ (r : StampRecord). r.parent) (λ (r : StampRecord). r.start) (take 2048 stamps))).2
