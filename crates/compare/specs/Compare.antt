-- Document 02, CR 6: "The viewer asks twice for each pair. The comparison is to give one of five answers". By the stamp records as they stand: literals v and -v have records 2v - 2 and 2v - 1.
-- Assumes nothing: these are definitions.
use Rattle.std.specs.Prelude.{ℕ, ◌≤◌, Bool, true, false, ◌&&◌, List, leb, length, ℤ, Result, Ok, Err}
use Rattle.literal.specs.Literals.{Literal, in_range, slot_of}
use Rattle.state.specs.declared.Refusal.{Refusal}
use Rattle.state.specs.declared.Refusal.TheVariants.{Shape}
use Rattle.state.specs.Answers.{refusal_number, result_by}
use Rattle.intervals.specs.declared.Interval.{Interval}
use Rattle.intervals.specs.declared.Relation.{Relation}
use Rattle.intervals.specs.Intervals.{interval, compare}
use Rattle.intervals.specs.Relations.{relation_number, exchanged}
use Rattle.stamps.specs.Fresh.{discovery_in, finish_in}

abbrev pub interval_of : List ℕ → ℤ → Interval
interval_of times p = interval (discovery_in times (slot_of p)) (finish_in times (slot_of p))

-- a literal of one of v variables, and of the 1,024 that the records are for
abbrev pub has_record : ℕ → ℤ → Bool
has_record v p = in_range p 1024 && in_range p v

-- no table is shorter than stated, and both literals are of the variables
abbrev pub comparable : List ℕ → ℕ → ℤ → ℤ → Bool
comparable times v p q = leb 4096 (length times) && (has_record v p && has_record v q)

unfoldable pub compare_call : List ℕ → ℕ → ℤ → ℤ → Result Relation Refusal
compare_call times v p q = elim (comparable times v p q) [ true ↦ Ok (compare (interval_of times p) (interval_of times q)) | false ↦ Err Shape ]

-- the same as a rule: an answer is given exactly if it holds (law `compare_given`)
pub record MayCompare (times : List ℕ) (v : ℕ) (p q : ℤ) : Type 0 where
  pub long : 4096 ≤ length times
  pub first : Literal v p
  pub second : Literal v q
  pub first_record : Literal 1024 p
  pub second_record : Literal 1024 q

-- the answer for the two literals the other way round
abbrev pub other_way : Result Relation Refusal → Result Relation Refusal
other_way (Err r) = Err r
other_way (Ok relation) = Ok (exchanged relation)

-- for C: the answer's number, or the refusal's, negative
abbrev pub comparison_result : Result Relation Refusal → ℤ
comparison_result (Err r) = result_by (refusal_number r) 0
comparison_result (Ok relation) = result_by 0 (relation_number relation)
