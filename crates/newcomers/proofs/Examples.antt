-- A worked run of newcomers, through load, Stamp and learn, by computation. The formula is P2, (−1 2)(−2 3)(1 3 4), stamped under 1, −1, 2, −2, ..: 1 holds 2 and 3, −3 holds −2 and −1.
-- A pair of the formula is kept whole; 1 goes where 3 stays; the pair that the chain from 1 to 3 implies is dropped; so is a longer clause with that pair; the empty clause and a clause with a variable twice.
-- Assumes nothing.
use native.Mathlib.Decide.{ℕ_discrete, dec_le, dec_lt}
use mathlib.Core.Path.{◌≡◌, refl}
use mathlib.Core.List.{List, [], ◌∷◌}
use lib.ListN.{replicate}
use lib.IntN.{ℤ, pos, negsuc}
use Rattle.base.specs.Bytes.{bytes}
use Rattle.base.specs.Decide.{and?, or?, if?, not?, so?, every?, eqᵇ?, eqℤ?}
use Rattle.base.specs.Lists.{any, filter, absent, first, any_below, all_below, same_list, numbers, turned, evens, odds, interleave}
use Rattle.literal.specs.Literals.{twin}
use Rattle.walk.specs.Walk.{arrive, leave, edge, edges, enters, start_walk, stamp_all}
use Rattle.implications.specs.Edges.{outs}
use Rattle.implications.specs.Clauses.{froms, tos}
use Rattle.scc.specs.Groups.{reaches, connected, cyclic}
use Rattle.stamps.specs.Decision.{literal?, holds?, times?, parent?, start?, nested?, fresh?}
use Rattle.state.specs.Answers.{Reply, reply}
use Rattle.state.specs.States.{empty_state}
use Rattle.state.specs.Programmes.{programme_of, constant_programme}
use Rattle.programmes.specs.Judging.{settled?, stamped?, fits?, rules?, passing?, offending_place, first_offending, judge as judgeCodes}
use Rattle.tables.specs.Long.{long?, long_ok}
use Rattle.tables.specs.Clauses.{slots_at, slots_from}
use Rattle.tables.specs.Passes.{first_unsettled}
use Rattle.tables.specs.Calls.{After}
use Rattle.shape.specs.Decision.{parts?, literals?, variable?, spread?, cursor?, clauses?, shape?, shape_ok}
use Rattle.entry.specs.Entry.{opening_of}
use Rattle.window.specs.Window.{Places, places, window_of, clauses_from, clauses_of, total_of, emptied, eldest_left, put, keep, AfterWindow}
use Rattle.window.specs.Rule.{learnable?, long_window?, window?, learnable_ok, long_window_ok, window_ok}
use Rattle.dimacs.specs.Words.{words_at}
use Rattle.dimacs.specs.Header.{header, header_rest}
use Rattle.dimacs.specs.Text.{judge, judge_text, clauses_of as textClausesOf}
use Rattle.load.specs.Load.{clause_records, literal_places, variable_records, laid, load_call, load_with}
use Rattle.hidden.specs.Hidden.{holds, insert, by_discovery, scan_at, scan, figure6, transitive, hidden_pair, hidden_tautology, unhidden, shorten}
use Rattle.stamp.specs.Stamp.{first_bad, stamps_of, stamped_tables, stamp_acyclic, stamp_settled, stamp_ordered, stamp_call}
use Rattle.sweep_visits.specs.Clause.{sweep_clause}
use Rattle.learn.specs.Learn.{learn_call}
use Rattle.simplify.specs.Texts.{empty_tables}

-- a window that was never used, with a size and a total that a load does not look at
abbrev unused : Places
unused = places (7 ∷ replicate 63 0) (replicate 4096 (pos 0)) (window_of 65 3)

abbrev loaded : AfterWindow
loaded = load_with (bytes "p cnf 4 3\n-1 2 0\n-2 3 0\n1 3 4 0\n") empty_tables empty_state unused

abbrev stamped : After
stamped = stamp_call (pos 1 ∷ negsuc 0 ∷ pos 2 ∷ negsuc 1 ∷ pos 3 ∷ negsuc 2 ∷ pos 4 ∷ negsuc 3 ∷ []) loaded.made.tables loaded.made.state

-- newcomers in turn, each with the window that the one before has left: the replies
unfoldable pub replies_from : List (List ℤ) → Places → List Reply
replies_from [] w = []
replies_from (C ∷ Cs) w = (learn_call C stamped.tables stamped.state w).made.reply ∷ replies_from Cs (learn_call C stamped.tables stamped.state w).window

-- and the window at the end
unfoldable pub window_after : List (List ℤ) → Places → Places
window_after [] w = w
window_after (C ∷ Cs) w = window_after Cs (learn_call C stamped.tables stamped.state w).window

abbrev newcomers : List (List ℤ)
newcomers = (negsuc 0 ∷ pos 2 ∷ []) ∷ (pos 1 ∷ pos 3 ∷ []) ∷ (negsuc 0 ∷ pos 3 ∷ []) ∷ (pos 4 ∷ negsuc 0 ∷ pos 3 ∷ []) ∷ [] ∷ (pos 4 ∷ negsuc 3 ∷ []) ∷ (pos 4 ∷ pos 1 ∷ pos 2 ∷ []) ∷ []

-- kept whole with 2, shortened to 1, dropped, dropped, kept whole with 0, refused with 11, shortened to 2
pub replies : replies_from newcomers loaded.window ≡ reply 9 0 (0 ∷ 2 ∷ []) ∷ reply 10 0 (2 ∷ 1 ∷ []) ∷ reply 11 0 (1 ∷ 0 ∷ []) ∷ reply 11 0 (1 ∷ 0 ∷ []) ∷ reply 9 0 (0 ∷ 0 ∷ []) ∷ reply 0 11 (0 ∷ []) ∷ reply 10 0 (2 ∷ 2 ∷ []) ∷ []
unfolding and? or? if? not? so? every? eqᵇ? eqℤ? any filter absent first any_below all_below same_list numbers turned evens odds interleave twin arrive leave edge edges enters start_walk stamp_all outs froms tos reaches connected cyclic literal? holds? times? parent? start? nested? fresh? long? long_ok slots_at slots_from first_unsettled parts? literals? variable? spread? cursor? clauses? shape? shape_ok opening_of words_at header header_rest judge judge_text textClausesOf clause_records literal_places variable_records laid load_call load_with holds insert by_discovery scan_at scan figure6 transitive hidden_pair hidden_tautology unhidden shorten first_bad stamps_of stamped_tables stamp_acyclic stamp_settled stamp_ordered stamp_call sweep_clause ℕ_discrete dec_le dec_lt constant_programme programme_of passing? rules? fits? stamped? settled? judgeCodes first_offending offending_place learnable? long_window? window? learnable_ok long_window_ok window_ok total_of emptied eldest_left put keep learn_call clauses_from replies_from
replies = refl

pub window_then : (clauses_of (window_after newcomers loaded.window) ≡ (negsuc 0 ∷ pos 2 ∷ []) ∷ (pos 3 ∷ []) ∷ [] ∷ (pos 4 ∷ pos 2 ∷ []) ∷ []) × ((window_after newcomers loaded.window).window ≡ window_of 4 5)
unfolding and? or? if? not? so? every? eqᵇ? eqℤ? any filter absent first any_below all_below same_list numbers turned evens odds interleave twin arrive leave edge edges enters start_walk stamp_all outs froms tos reaches connected cyclic literal? holds? times? parent? start? nested? fresh? long? long_ok slots_at slots_from first_unsettled parts? literals? variable? spread? cursor? clauses? shape? shape_ok opening_of words_at header header_rest judge judge_text textClausesOf clause_records literal_places variable_records laid load_call load_with holds insert by_discovery scan_at scan figure6 transitive hidden_pair hidden_tautology unhidden shorten first_bad stamps_of stamped_tables stamp_acyclic stamp_settled stamp_ordered stamp_call sweep_clause ℕ_discrete dec_le dec_lt constant_programme programme_of passing? rules? fits? stamped? settled? judgeCodes first_offending offending_place learnable? long_window? window? learnable_ok long_window_ok window_ok total_of emptied eldest_left put keep learn_call clauses_from window_after
window_then = (refl, refl)
