-- Worked cases of Write as one lemma over a list, by computation: P1 and the input of document 01 written back alike, values and classes, an exact fit, refusal 10 with its length, the mark, refusal 1. Assumes nothing.
use native.Mathlib.Decide.{ℕ_discrete, dec_le, dec_lt}
use mathlib.Core.Path.{refl}
use mathlib.Core.Bool.{false}
use mathlib.Core.List.{List, [], ◌∷◌}
use lib.IntN.{pos, negsuc}
use Rattle.base.specs.Decide.{and?, or?, if?, not?, so?, every?, eqᵇ?, eqℤ?}
use Rattle.stamps.specs.Decision.{literal?, fresh?}
use Rattle.state.specs.Programmes.{programme_of, constant_programme}
use Rattle.state.specs.States.{state, loaded_state, empty_state}
use Rattle.state.specs.declared.Pass.TheVariants.{Merge}
use Rattle.programmes.specs.Judging.{settled?, stamped?, fits?, rules?, passing?}
use Rattle.tables.specs.Tables.{Tables, tables}
use Rattle.tables.specs.Long.{long?, long_ok}
use Rattle.shape.specs.Decision.{parts?, literals?, variable?, spread?, cursor?, clauses?, shape?, shape_ok}
use Rattle.dimacs.specs.Words.{words_at}
use Rattle.dimacs.specs.Header.{header, header_rest}
use Rattle.dimacs.specs.Text.{judge, judge_text, clauses_of}
use Rattle.load.specs.Load.{clause_records, literal_places, variable_records, laid, load_call}
use Rattle.printing.specs.Printing.{digits, clause_text, clauses_text, text_of}
use Rattle.write.specs.Write.{written_clauses, write_text, write_call}
use Rattle.roundtrip.specs.Case.{padded, full, WriteCase, case, loaded_case, AllWritten}

-- variable 1 is true, 2 is -1, 3 is false, 4 is 3, and so 2 and 4 are false; the first clause is 1 or -3, the second is dropped
abbrev valued : Tables
valued = full (0 ∷ 2 ∷ 1 ∷ 2 ∷ 0 ∷ 0 ∷ []) (pos 1 ∷ negsuc 2 ∷ []) (pos 1 ∷ pos 1 ∷ negsuc 0 ∷ negsuc 0 ∷ pos 3 ∷ negsuc 0 ∷ pos 3 ∷ negsuc 0 ∷ [])

-- a literal table that is one place short
abbrev short : Tables
short = tables (padded 0 12288 []) (padded (pos 0) 16383 []) (padded (pos 0) 2048 []) (padded 0 4096 []) (padded (pos 0) 4096 [])

abbrev cases : List WriteCase
cases =
    -- P1, and the input of document 01: written back alike, and later bytes stay
    loaded_case "p cnf 0 0\n" 12 0 10 "p cnf 0 0\n" 2
    ∷ loaded_case "p cnf 4 3\n-1 2 0\n-2 3 0\n1 3 4 0\n" 40 0 32 "p cnf 4 3\n-1 2 0\n-2 3 0\n1 3 4 0\n" 8
    -- comments, a repeat and a clause with v and -v are gone
    ∷ loaded_case "c a\np cnf 3 3\n2 1 2 0 3 1 -3 0\n -2 0" 30 0 21 "p cnf 3 2\n2 1 0\n-2 0\n" 9
    -- units for the variables that are their own class, class clauses, the standing clause
    ∷ case valued (loaded_state 4 2 false) 55 0 54 "p cnf 4 7\n1 0\n-3 0\n2 1 0\n-2 -1 0\n4 -3 0\n-4 3 0\n1 -3 0\n" 1
    -- an output that fits exactly, and one that is a byte short
    ∷ case valued (loaded_state 4 2 false) 54 0 54 "p cnf 4 7\n1 0\n-3 0\n2 1 0\n-2 -1 0\n4 -3 0\n-4 3 0\n1 -3 0\n" 0
    ∷ case valued (loaded_state 4 2 false) 53 10 54 "" 53
    -- under the mark
    ∷ loaded_case "p cnf 2 2\n1 0\n0\n" 12 0 12 "p cnf 2 1\n0\n" 0
    ∷ loaded_case "p cnf 2 2\n1 0\n0\n" 11 10 12 "" 11
    -- an open pass is no obstacle
    ∷ case (full (0 ∷ 2 ∷ 1 ∷ []) (pos 1 ∷ negsuc 1 ∷ []) (pos 1 ∷ pos 0 ∷ pos 1 ∷ pos 0 ∷ [])) (state 2 1 (Merge 0) false false constant_programme) 40 0 31 "p cnf 2 3\n2 -1 0\n-2 1 0\n1 -2 0\n" 9
    -- refusal 1: a short table; a literal out of range; a value that is not that of the class literal
    ∷ case short empty_state 20 1 0 "" 20
    ∷ case (full (0 ∷ 1 ∷ 1 ∷ []) (pos 3 ∷ []) (pos 1 ∷ pos 0 ∷ pos 2 ∷ pos 0 ∷ [])) (loaded_state 2 1 false) 40 1 0 "" 40
    ∷ case (full [] [] (pos 1 ∷ pos 0 ∷ pos 1 ∷ pos 1 ∷ [])) (loaded_state 2 0 false) 40 1 0 "" 40
    ∷ []

pub hold : AllWritten cases
unfolding write_call write_text written_clauses text_of clauses_text clause_text digits load_call laid clause_records literal_places variable_records long_ok judge_text judge clauses_of words_at header header_rest shape_ok shape? long? clauses? parts? literals? variable? spread? cursor? fresh? literal? and? or? if? not? so? every? eqᵇ? eqℤ? ℕ_discrete dec_le dec_lt constant_programme programme_of passing? rules? fits? stamped? settled?
hold = (refl, (refl, (refl, (refl, (refl, (refl, (refl, (refl, (refl, (refl, (refl, (refl, tt))))))))))))
