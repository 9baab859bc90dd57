-- The pallet cases P1 to P11 of document 01, and behind them cases of document 02's CR 2, CR 4 and CR 5, as a single lemma over a list of cases, by computation. Assumes nothing.
use Prim.Native.String.{String}
use Prim.Native.Nat.{ℕ}
use native.Mathlib.Decide.{ℕ_discrete, dec_le, dec_lt}
use mathlib.Core.Path.{refl}
use mathlib.Core.Bool.{Bool, true, false}
use mathlib.Core.List.{List, [], ◌∷◌}
use lib.IntN.{ℤ, pos, negsuc}
use Rattle.base.specs.Decide.{and?, or?, if?, not?, so?, every?, eqᵇ?, eqℤ?}
use Rattle.base.specs.Lists.{any, filter, absent, first, any_below, all_below, same_list, numbers, turned, evens, odds, interleave}
use Rattle.literal.specs.Literals.{twin}
use Rattle.walk.specs.Walk.{arrive, leave, edge, edges, enters, start_walk, stamp_all}
use Rattle.implications.specs.Edges.{outs}
use Rattle.implications.specs.Clauses.{froms, tos}
use Rattle.scc.specs.Groups.{reaches, connected, cyclic, least_mutual}
use Rattle.stamps.specs.Decision.{literal?, holds?, times?, parent?, start?, nested?, fresh?}
use Rattle.state.specs.Programmes.{programme_of, constant_programme}
use Rattle.state.specs.Answers.{Reply, reply}
use Rattle.programmes.specs.Judging.{settled?, stamped?, fits?, rules?, passing?, offending_place, first_offending, judge as judgeCodes}
use Rattle.tables.specs.Long.{long?, long_ok}
use Rattle.tables.specs.Clauses.{slots_at, slots_from, standing_count, literal_count}
use Rattle.tables.specs.Fates.{shortened, dropped_at, fate_at, visits}
use Rattle.tables.specs.Passes.{advance, first_unsettled}
use Rattle.shape.specs.Decision.{parts?, literals?, variable?, spread?, cursor?, clauses?, shape?, shape_ok}
use Rattle.entry.specs.Entry.{entry_of, opening_of}
use Rattle.dimacs.specs.Words.{words_at}
use Rattle.dimacs.specs.Header.{header, header_rest}
use Rattle.dimacs.specs.Text.{judge, judge_text, clauses_of}
use Rattle.load.specs.Load.{clause_records, literal_places, variable_records, laid, load_call}
use Rattle.printing.specs.Printing.{digits, clause_text, clauses_text, text_of}
use Rattle.write.specs.Write.{written_clauses, write_text, write_call}
use Rattle.spread.specs.Spread.{spread_from, spread}
use Rattle.propagate.specs.Propagate.{propagate_from, propagate_call}
use Rattle.propagate_visits.specs.Visits.{propagate_clause, propagate_visit, propagate_visits}
use Rattle.merge.specs.Merge.{clashes, representative, regrouped, merged_classes, merge_open, merge_settled, merge_call}
use Rattle.merge_visits.specs.Clause.{merge_clause}
use Rattle.hidden.specs.Hidden.{holds, insert, by_discovery, scan_at, scan, figure6, transitive, hidden_pair, hidden_tautology, unhidden, shorten}
use Rattle.hidden.specs.Failed.{same_start, holds_both, lowest, failed_slot}
use Rattle.stamp.specs.Stamp.{first_bad, stamps_of, stamped_tables, stamp_acyclic, stamp_settled, stamp_ordered, stamp_call}
use Rattle.failed.specs.Failed.{failed_at, failed_from, failed_fresh, failed_call}
use Rattle.sweep.specs.Sweep.{sweep_call}
use Rattle.sweep_visits.specs.Clause.{sweep_clause}
use Rattle.settle.specs.Settle.{settle_for, settle}
use Rattle.round_order.specs.Order.{order_of}
use Rattle.run.specs.Run.{follow, round, unchanged, run_from, run_call}
use Rattle.set_programme.specs.SetProgramme.{set_call}
use Rattle.simplify.specs.Texts.{simplify_text, unhide_text}
use Rattle.call_lists.specs.Lists.{propagate, merge, stamp, failed, sweep, step_on, steps_on}
use Rattle.base.specs.Bytes.{bytes}
use Rattle.cases.specs.Case.{Case, calls, prints, runs, Seen, All}

-- what is expected: replies, mark, the fronts of clauses, literals, variables, times and links, and what Write gives
abbrev sees : List Reply → Bool → List ℕ → List ℤ → List ℤ → List ℕ → List ℤ → List ℕ → Seen
sees r m c l v t k w = record { replies = r; mark = m; clauses = c; literals = l; variables = v; times = t; links = k; written = w }

-- replies
abbrev refused : ℕ → ℕ → Reply
refused number place = reply 0 number (place ∷ [])

abbrev loaded : Reply
loaded = reply 1 0 []

abbrev done : ℕ → ℕ → ℕ → Reply
done visits clauses literals = reply 3 0 (visits ∷ clauses ∷ literals ∷ [])

abbrev leaves : ℕ → ℕ → ℕ → Reply
leaves visits clauses literals = reply 2 0 (visits ∷ clauses ∷ literals ∷ [])

abbrev stamped : Reply
stamped = reply 4 0 []

abbrev sets : ℕ → Reply
sets count = reply 5 0 (count ∷ [])

abbrev set : Reply
set = reply 8 0 []

abbrev ran : ℕ → Reply
ran count = reply 6 0 (count ∷ [])

-- a formula that runs of different programmes leave differently
abbrev own : String
own = "p cnf 4 5\n1 2 0\n1 -2 0\n1 3 0\n2 3 4 0\n-1 4 3 0\n"

-- a refused load leaves the empty tables, which are written as `p cnf 0 0`
abbrev refused_at : ℕ → ℕ → Seen
refused_at number place = sees (refused number place ∷ []) false [] [] [] [] [] (bytes "p cnf 0 0\n")

-- 1, −1, 2, −2, ..
abbrev order₂ : List ℤ
order₂ = pos 1 ∷ negsuc 0 ∷ pos 2 ∷ negsuc 1 ∷ []

abbrev order₃ : List ℤ
order₃ = pos 1 ∷ negsuc 0 ∷ pos 2 ∷ negsuc 1 ∷ pos 3 ∷ negsuc 2 ∷ []

abbrev order₄ : List ℤ
order₄ = pos 1 ∷ negsuc 0 ∷ pos 2 ∷ negsuc 1 ∷ pos 3 ∷ negsuc 2 ∷ pos 4 ∷ negsuc 3 ∷ []

-- document 01, "Pallet cases"
abbrev cases : List Case
cases =
    -- P1
    calls "p cnf 0 0\n" []
    (sees (loaded ∷ []) false [] [] [] [] []
    (bytes "p cnf 0 0\n"))
    ∷
    -- P2: the stamps, under 1, −1, 2, −2, ..
    calls "p cnf 4 3\n-1 2 0\n-2 3 0\n1 3 4 0\n" (stamp order₄ ∷ [])
    (sees (loaded ∷ stamped ∷ []) false (0 ∷ 2 ∷ 1 ∷ 2 ∷ 2 ∷ 1 ∷ 4 ∷ 3 ∷ 1 ∷ []) (negsuc 0 ∷ pos 2 ∷ negsuc 1 ∷ pos 3 ∷ pos 1 ∷ pos 3 ∷ pos 4 ∷ []) (pos 1 ∷ pos 0 ∷ pos 2 ∷ pos 0 ∷ pos 3 ∷ pos 0 ∷ pos 4 ∷ pos 0 ∷ []) (1 ∷ 6 ∷ 9 ∷ 10 ∷ 2 ∷ 5 ∷ 8 ∷ 11 ∷ 3 ∷ 4 ∷ 7 ∷ 12 ∷ 13 ∷ 14 ∷ 15 ∷ 16 ∷ 0 ∷ []) (pos 1 ∷ pos 1 ∷ negsuc 1 ∷ negsuc 2 ∷ pos 1 ∷ pos 1 ∷ negsuc 2 ∷ negsuc 2 ∷ pos 2 ∷ pos 1 ∷ negsuc 2 ∷ negsuc 2 ∷ pos 4 ∷ pos 4 ∷ negsuc 3 ∷ negsuc 3 ∷ pos 0 ∷ [])
    (bytes "p cnf 4 3\n-1 2 0\n-2 3 0\n1 3 4 0\n"))
    ∷
    -- the same input through the program
    prints "p cnf 4 3\n-1 2 0\n-2 3 0\n1 3 4 0\n" "p cnf 4 3\n-1 2 0\n-2 3 0\n3 4 0\n"
    ∷
    -- P3: the third is dropped
    calls "p cnf 3 3\n-1 2 0\n-2 3 0\n-1 3 0\n" (stamp order₃ ∷ sweep 3 ∷ [])
    (sees (loaded ∷ stamped ∷ done 3 1 2 ∷ []) false (0 ∷ 2 ∷ 1 ∷ 2 ∷ 2 ∷ 1 ∷ 4 ∷ 0 ∷ 0 ∷ []) (negsuc 0 ∷ pos 2 ∷ negsuc 1 ∷ pos 3 ∷ pos 0 ∷ pos 0 ∷ []) (pos 1 ∷ pos 0 ∷ pos 2 ∷ pos 0 ∷ pos 3 ∷ pos 0 ∷ []) [] []
    (bytes "p cnf 3 2\n-1 2 0\n-2 3 0\n"))
    ∷
    -- P4: none is dropped
    calls "p cnf 3 3\n-1 3 0\n-1 2 0\n-2 3 0\n" (stamp order₃ ∷ sweep 3 ∷ [])
    (sees (loaded ∷ stamped ∷ done 3 0 0 ∷ []) false (0 ∷ 2 ∷ 1 ∷ 2 ∷ 2 ∷ 1 ∷ 4 ∷ 2 ∷ 1 ∷ []) (negsuc 0 ∷ pos 3 ∷ negsuc 0 ∷ pos 2 ∷ negsuc 1 ∷ pos 3 ∷ []) (pos 1 ∷ pos 0 ∷ pos 2 ∷ pos 0 ∷ pos 3 ∷ pos 0 ∷ []) [] []
    (bytes "p cnf 3 3\n-1 3 0\n-1 2 0\n-2 3 0\n"))
    ∷
    -- P5: the third is dropped
    calls "p cnf 4 3\n-1 2 0\n-2 3 0\n-1 3 4 0\n" (stamp order₄ ∷ sweep 3 ∷ [])
    (sees (loaded ∷ stamped ∷ done 3 1 3 ∷ []) false (0 ∷ 2 ∷ 1 ∷ 2 ∷ 2 ∷ 1 ∷ 4 ∷ 0 ∷ 0 ∷ []) (negsuc 0 ∷ pos 2 ∷ negsuc 1 ∷ pos 3 ∷ pos 0 ∷ pos 0 ∷ pos 0 ∷ []) (pos 1 ∷ pos 0 ∷ pos 2 ∷ pos 0 ∷ pos 3 ∷ pos 0 ∷ pos 4 ∷ pos 0 ∷ []) [] []
    (bytes "p cnf 4 2\n-1 2 0\n-2 3 0\n"))
    ∷
    -- P6: 1 fails, one value set
    calls "p cnf 2 2\n-1 2 0\n-1 -2 0\n" (stamp order₂ ∷ failed ∷ [])
    (sees (loaded ∷ stamped ∷ sets 1 ∷ []) false (0 ∷ 2 ∷ 1 ∷ 2 ∷ 2 ∷ 1 ∷ []) (negsuc 0 ∷ pos 2 ∷ negsuc 0 ∷ negsuc 1 ∷ []) (pos 1 ∷ negsuc 0 ∷ pos 2 ∷ pos 0 ∷ []) (1 ∷ 8 ∷ 3 ∷ 4 ∷ 2 ∷ 5 ∷ 6 ∷ 7 ∷ []) []
    (bytes "p cnf 2 3\n-1 0\n-1 2 0\n-1 -2 0\n"))
    ∷
    -- P7: class of 2 is 1, both dropped
    calls "p cnf 2 2\n-1 2 0\n-2 1 0\n" (merge 2 ∷ [])
    (sees (loaded ∷ done 2 2 4 ∷ []) false (0 ∷ 0 ∷ 0 ∷ 2 ∷ 0 ∷ 0 ∷ []) (pos 0 ∷ pos 0 ∷ pos 0 ∷ pos 0 ∷ []) (pos 1 ∷ pos 0 ∷ pos 1 ∷ pos 0 ∷ []) [] []
    (bytes "p cnf 2 2\n2 -1 0\n-2 1 0\n"))
    ∷
    -- P8: Merge sets the mark
    calls "p cnf 2 4\n1 2 0\n1 -2 0\n-1 2 0\n-1 -2 0\n" (merge 4 ∷ [])
    (sees (loaded ∷ done 0 0 0 ∷ []) true (0 ∷ 2 ∷ 1 ∷ 2 ∷ 2 ∷ 1 ∷ 4 ∷ 2 ∷ 1 ∷ 6 ∷ 2 ∷ 1 ∷ []) (pos 1 ∷ pos 2 ∷ pos 1 ∷ negsuc 1 ∷ negsuc 0 ∷ pos 2 ∷ negsuc 0 ∷ negsuc 1 ∷ []) (pos 1 ∷ pos 0 ∷ pos 2 ∷ pos 0 ∷ []) [] []
    (bytes "p cnf 2 1\n0\n"))
    ∷
    -- P9: Stamp gives 7; Merge makes classes 1, 1, −1, 1 and leaves the unit 1
    calls "p cnf 4 5\n2 3 0\n-3 -1 0\n1 2 0\n-2 4 0\n-4 1 0\n" (stamp order₄ ∷ merge 5 ∷ [])
    (sees (loaded ∷ refused 7 0 ∷ done 5 4 9 ∷ []) false (0 ∷ 0 ∷ 0 ∷ 2 ∷ 0 ∷ 0 ∷ 4 ∷ 1 ∷ 1 ∷ 6 ∷ 0 ∷ 0 ∷ 8 ∷ 0 ∷ 0 ∷ []) (pos 0 ∷ pos 0 ∷ pos 0 ∷ pos 0 ∷ pos 1 ∷ pos 0 ∷ pos 0 ∷ pos 0 ∷ pos 0 ∷ pos 0 ∷ []) (pos 1 ∷ pos 0 ∷ pos 1 ∷ pos 0 ∷ negsuc 0 ∷ pos 0 ∷ pos 1 ∷ pos 0 ∷ []) (0 ∷ []) (pos 0 ∷ [])
    (bytes "p cnf 4 7\n2 -1 0\n-2 1 0\n3 1 0\n-3 -1 0\n4 -1 0\n-4 1 0\n1 0\n"))
    ∷
    -- P10
    calls "p cnf 1 1\n01 0" [] (refused_at 2 10)
    ∷
    calls "p cnf 1 1\n2 0" [] (refused_at 3 10)
    ∷
    calls "p cnf 1 1\n1\n" [] (refused_at 2 12)
    ∷
    -- P11
    calls "p cnf 1024 0\n" []
    (sees (loaded ∷ []) false (0 ∷ []) (pos 0 ∷ []) (pos 1 ∷ pos 0 ∷ pos 2 ∷ pos 0 ∷ pos 3 ∷ pos 0 ∷ pos 4 ∷ pos 0 ∷ []) [] []
    (bytes "p cnf 1024 0\n"))
    ∷
    calls "p cnf 1025 0\n" [] (refused_at 3 6)
    ∷
    -- document 02, CR 2: −1 holds 3 and is not its parent, so the third is dropped
    calls "p cnf 3 4\n1 2 0\n1 -2 0\n1 3 0\n2 3 0\n" (stamp order₃ ∷ sweep 4 ∷ [])
    (sees (loaded ∷ stamped ∷ done 4 1 4 ∷ []) false (0 ∷ 1 ∷ 1 ∷ 2 ∷ 1 ∷ 1 ∷ 4 ∷ 0 ∷ 0 ∷ 6 ∷ 2 ∷ 1 ∷ []) (pos 1 ∷ pos 0 ∷ pos 1 ∷ pos 0 ∷ pos 0 ∷ pos 0 ∷ pos 2 ∷ pos 3 ∷ []) (pos 1 ∷ pos 0 ∷ pos 2 ∷ pos 0 ∷ pos 3 ∷ pos 0 ∷ []) (3 ∷ 4 ∷ 1 ∷ 10 ∷ 2 ∷ 5 ∷ 6 ∷ 9 ∷ 7 ∷ 8 ∷ 11 ∷ 12 ∷ []) (pos 2 ∷ negsuc 0 ∷ negsuc 0 ∷ negsuc 0 ∷ negsuc 0 ∷ negsuc 0 ∷ negsuc 0 ∷ negsuc 0 ∷ negsuc 1 ∷ negsuc 0 ∷ negsuc 2 ∷ negsuc 2 ∷ [])
    (bytes "p cnf 3 3\n1 0\n1 0\n2 3 0\n"))
    ∷
    -- document 02, CR 4: P9's classes 1, 1, −1, 1; Propagate finds the unit 1, and every variable has its value; Write gives the one unit
    calls "p cnf 4 5\n2 3 0\n-3 -1 0\n1 2 0\n-2 4 0\n-4 1 0\n" (merge 5 ∷ propagate 3 ∷ [])
    (sees (loaded ∷ done 5 4 9 ∷ leaves 3 1 1 ∷ []) false (0 ∷ 0 ∷ 0 ∷ 2 ∷ 0 ∷ 0 ∷ 4 ∷ 0 ∷ 0 ∷ 6 ∷ 0 ∷ 0 ∷ 8 ∷ 0 ∷ 0 ∷ []) (pos 0 ∷ pos 0 ∷ pos 0 ∷ pos 0 ∷ pos 0 ∷ []) (pos 1 ∷ pos 1 ∷ pos 1 ∷ pos 1 ∷ negsuc 0 ∷ negsuc 0 ∷ pos 1 ∷ pos 1 ∷ []) [] []
    (bytes "p cnf 4 7\n1 0\n2 -1 0\n-2 1 0\n3 1 0\n-3 -1 0\n4 -1 0\n-4 1 0\n"))
    ∷
    -- classes 1, 1, 3, −1; 1 fails, one value is counted, and 2 and 4 have theirs
    calls "p cnf 4 6\n-1 2 0\n-2 1 0\n1 4 0\n-1 -4 0\n-1 3 0\n-1 -3 0\n" (merge 6 ∷ stamp order₄ ∷ failed ∷ [])
    (sees (loaded ∷ done 6 4 8 ∷ stamped ∷ sets 1 ∷ []) false (0 ∷ 0 ∷ 0 ∷ 2 ∷ 0 ∷ 0 ∷ 4 ∷ 0 ∷ 0 ∷ 6 ∷ 0 ∷ 0 ∷ 8 ∷ 2 ∷ 1 ∷ 10 ∷ 2 ∷ 1 ∷ []) (pos 0 ∷ pos 0 ∷ pos 0 ∷ pos 0 ∷ pos 0 ∷ pos 0 ∷ pos 0 ∷ pos 0 ∷ negsuc 0 ∷ pos 3 ∷ negsuc 0 ∷ negsuc 2 ∷ [])
    (pos 1 ∷ negsuc 0 ∷ pos 1 ∷ negsuc 0 ∷ pos 3 ∷ pos 0 ∷ negsuc 0 ∷ pos 1 ∷ []) [] []
    (bytes "p cnf 4 7\n-1 0\n2 -1 0\n-2 1 0\n4 1 0\n-4 -1 0\n-1 3 0\n-1 -3 0\n"))
    ∷
    -- document 02, CR 5: each run follows its programme. By the constant one, set again, −1 fails in round 0 and round 1 removes what follows; by a settle alone nothing changes; without a sweep (2 3 4) stays; with two stampings two rounds are enough
    runs own (1 ∷ 2 ∷ 3 ∷ 4 ∷ []) 9 (loaded ∷ set ∷ ran 3 ∷ []) "p cnf 4 2\n1 0\n4 3 0\n"
    ∷
    runs own (1 ∷ []) 9 (loaded ∷ set ∷ ran 1 ∷ []) own
    ∷
    runs own (1 ∷ 2 ∷ 3 ∷ []) 9 (loaded ∷ set ∷ ran 3 ∷ []) "p cnf 4 3\n1 0\n2 3 4 0\n4 3 0\n"
    ∷
    runs own (1 ∷ 2 ∷ 4 ∷ 1 ∷ 2 ∷ 3 ∷ 4 ∷ []) 9 (loaded ∷ set ∷ ran 2 ∷ []) "p cnf 4 2\n1 0\n4 3 0\n"
    ∷
    -- a stamp that follows a failed: refused, and the run follows the constant one
    runs own (1 ∷ 2 ∷ 3 ∷ 2 ∷ []) 9 (loaded ∷ refused 12 3 ∷ ran 3 ∷ []) "p cnf 4 2\n1 0\n4 3 0\n"
    ∷ []

pub hold : All cases
unfolding and? or? if? not? so? every? eqᵇ? eqℤ? any filter absent first any_below all_below same_list numbers turned evens odds interleave twin arrive leave edge edges enters start_walk stamp_all outs froms tos reaches connected cyclic least_mutual literal? holds? times? parent? start? nested? fresh? long? long_ok slots_at slots_from standing_count literal_count shortened dropped_at fate_at visits advance first_unsettled parts? literals? variable? spread? cursor? clauses? shape? shape_ok entry_of opening_of words_at header header_rest judge judge_text clauses_of clause_records literal_places variable_records laid load_call digits clause_text clauses_text text_of written_clauses write_text write_call propagate_clause propagate_visit propagate_visits spread_from spread propagate_from propagate_call clashes representative regrouped merged_classes merge_clause merge_open merge_settled merge_call holds insert by_discovery scan_at scan figure6 transitive hidden_pair hidden_tautology unhidden shorten same_start holds_both lowest failed_slot first_bad stamps_of stamped_tables stamp_acyclic stamp_settled stamp_ordered stamp_call failed_at failed_from failed_fresh failed_call sweep_clause sweep_call settle_for settle order_of follow round unchanged run_from run_call simplify_text unhide_text step_on steps_on ℕ_discrete dec_le dec_lt constant_programme programme_of passing? rules? fits? stamped? settled? judgeCodes first_offending offending_place set_call
hold = (refl, (refl, (refl, (refl, (refl, (refl, (refl, (refl, (refl, (refl, (refl, (refl, (refl, (refl, (refl, (refl, (refl, (refl, (refl, (refl, (refl, (refl, (refl, tt)))))))))))))))))))))))
