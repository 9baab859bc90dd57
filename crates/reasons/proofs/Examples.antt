-- Worked explanations, through load, Stamp and explain, by computation. The formula is P2, (−1 2)(−2 3)(1 3 4), with (−1 3), (−1 3 4), (−5 3) and (5 3 4) behind it, stamped under 1, −1, 2, −2, ..: 1 holds 2 and 3, −3 holds −2, −1 and −5, and 5 holds no other literal.
-- Assumes nothing.
use Prim.Native.Nat.{ℕ}
use native.Mathlib.Decide.{ℕ_discrete, dec_le, dec_lt}
use mathlib.Core.Path.{◌≡◌, refl}
use mathlib.Core.List.{[], ◌∷◌, ◌++◌, map}
use lib.ListN.{replicate}
use lib.IntN.{pos, negsuc}
use Rattle.base.specs.Bytes.{bytes}
use Rattle.base.specs.Decide.{and?, or?, if?, not?, so?, every?, eqᵇ?, eqℤ?}
use Rattle.base.specs.Lists.{any, filter, absent, first, any_below, all_below, same_list, numbers, turned, evens, odds, interleave}
use Rattle.literal.specs.Literals.{twin}
use Rattle.walk.specs.Walk.{arrive, leave, edge, edges, enters, start_walk, stamp_all}
use Rattle.implications.specs.Edges.{outs}
use Rattle.implications.specs.Clauses.{froms, tos}
use Rattle.scc.specs.Groups.{reaches, connected, cyclic}
use Rattle.stamps.specs.Decision.{literal?, holds?, times?, parent?, start?, nested?, fresh?}
use Rattle.state.specs.Answers.{reply}
use Rattle.state.specs.States.{empty_state}
use Rattle.state.specs.Programmes.{programme_of, constant_programme}
use Rattle.programmes.specs.Judging.{settled?, stamped?, fits?, rules?, passing?, offending_place, first_offending, judge as judgeCodes}
use Rattle.tables.specs.Long.{long?, long_ok}
use Rattle.tables.specs.Clauses.{slots_at, slots_from}
use Rattle.tables.specs.Passes.{first_unsettled}
use Rattle.tables.specs.Calls.{After}
use Rattle.shape.specs.Decision.{parts?, literals?, variable?, spread?, cursor?, clauses?, shape?, shape_ok}
use Rattle.entry.specs.Entry.{opening_of}
use Rattle.dimacs.specs.Words.{words_at}
use Rattle.dimacs.specs.Header.{header, header_rest}
use Rattle.dimacs.specs.Text.{judge, judge_text, clauses_of}
use Rattle.load.specs.Load.{clause_records, literal_places, variable_records, laid, load_call}
use Rattle.hidden.specs.Hidden.{holds, insert, by_discovery, scan_at, scan, figure6, transitive, hidden_pair, hidden_tautology, unhidden, shorten}
use Rattle.stamp.specs.Stamp.{first_bad, stamps_of, stamped_tables, stamp_acyclic, stamp_settled, stamp_ordered, stamp_call}
use Rattle.sweep_visits.specs.Clause.{sweep_clause}
use Rattle.printing.specs.Printing.{digits, clause_text, clauses_text}
use Rattle.write.specs.Write.{AfterWrite}
use Rattle.chains.specs.Chains.{climb, chain_of}
use Rattle.explain.specs.Reasons.{holds_other, long_ends, drop_ends, literal_ends, left_out}
use Rattle.explain.specs.Explain.{stands, explain_call}
use Rattle.simplify.specs.Texts.{empty_tables}

abbrev loaded : After
loaded = load_call (bytes "p cnf 5 7\n-1 2 0\n-2 3 0\n1 3 4 0\n-1 3 0\n-1 3 4 0\n-5 3 0\n5 3 4 0\n") empty_tables empty_state

abbrev stamped : After
stamped = stamp_call (pos 1 ∷ negsuc 0 ∷ pos 2 ∷ negsuc 1 ∷ pos 3 ∷ negsuc 2 ∷ pos 4 ∷ negsuc 3 ∷ pos 5 ∷ negsuc 4 ∷ []) loaded.tables loaded.state

-- clause `number`, with an output of ten bytes 1
abbrev asked : ℕ → AfterWrite
asked number = explain_call number stamped.tables stamped.state (replicate 10 1)

-- 0 is no clause; the first stays; (1 3 4) loses 1; (−1 3) and (−1 3 4) are dropped; (5 3 4) loses 5; there is no eighth.
pub replies : map (λ number. (asked number).reply) (0 ∷ 1 ∷ 3 ∷ 4 ∷ 5 ∷ 7 ∷ 8 ∷ [])
    ≡ reply 0 13 (0 ∷ []) ∷ reply 12 0 (0 ∷ 0 ∷ 0 ∷ []) ∷ reply 12 0 (2 ∷ 1 ∷ 8 ∷ []) ∷ reply 12 0 (1 ∷ 0 ∷ 8 ∷ []) ∷ reply 12 0 (1 ∷ 0 ∷ 8 ∷ []) ∷ reply 12 0 (2 ∷ 1 ∷ 8 ∷ []) ∷ reply 0 13 (0 ∷ []) ∷ []
unfolding and? or? if? not? so? every? eqᵇ? eqℤ? any filter absent first any_below all_below same_list numbers turned evens odds interleave twin arrive leave edge edges enters start_walk stamp_all outs froms tos reaches connected cyclic literal? holds? times? parent? start? nested? fresh? long? long_ok slots_at slots_from first_unsettled parts? literals? variable? spread? cursor? clauses? shape? shape_ok opening_of words_at header header_rest judge judge_text clauses_of clause_records literal_places variable_records laid load_call holds insert by_discovery scan_at scan figure6 transitive hidden_pair hidden_tautology unhidden shorten first_bad stamps_of stamped_tables stamp_acyclic stamp_settled stamp_ordered stamp_call sweep_clause ℕ_discrete dec_le dec_lt constant_programme programme_of passing? rules? fits? stamped? settled? judgeCodes first_offending offending_place holds_other long_ends drop_ends literal_ends left_out stands explain_call climb chain_of digits clause_text clauses_text
replies = refl

-- (1 3 4): 1 holds 3, by way of 2
pub shortened_text : (asked 3).out ≡ bytes "1 2 3 0\n" ++ (1 ∷ 1 ∷ [])
unfolding and? or? if? not? so? every? eqᵇ? eqℤ? any filter absent first any_below all_below same_list numbers turned evens odds interleave twin arrive leave edge edges enters start_walk stamp_all outs froms tos reaches connected cyclic literal? holds? times? parent? start? nested? fresh? long? long_ok slots_at slots_from first_unsettled parts? literals? variable? spread? cursor? clauses? shape? shape_ok opening_of words_at header header_rest judge judge_text clauses_of clause_records literal_places variable_records laid load_call holds insert by_discovery scan_at scan figure6 transitive hidden_pair hidden_tautology unhidden shorten first_bad stamps_of stamped_tables stamp_acyclic stamp_settled stamp_ordered stamp_call sweep_clause ℕ_discrete dec_le dec_lt constant_programme programme_of passing? rules? fits? stamped? settled? judgeCodes first_offending offending_place holds_other long_ends drop_ends literal_ends left_out stands explain_call climb chain_of digits clause_text clauses_text
shortened_text = refl

-- (−1 3): the edge from 1 to 3, and 2 is the parent of 3
pub pair_text : (asked 4).out ≡ bytes "1 2 3 0\n" ++ (1 ∷ 1 ∷ [])
unfolding and? or? if? not? so? every? eqᵇ? eqℤ? any filter absent first any_below all_below same_list numbers turned evens odds interleave twin arrive leave edge edges enters start_walk stamp_all outs froms tos reaches connected cyclic literal? holds? times? parent? start? nested? fresh? long? long_ok slots_at slots_from first_unsettled parts? literals? variable? spread? cursor? clauses? shape? shape_ok opening_of words_at header header_rest judge judge_text clauses_of clause_records literal_places variable_records laid load_call holds insert by_discovery scan_at scan figure6 transitive hidden_pair hidden_tautology unhidden shorten first_bad stamps_of stamped_tables stamp_acyclic stamp_settled stamp_ordered stamp_call sweep_clause ℕ_discrete dec_le dec_lt constant_programme programme_of passing? rules? fits? stamped? settled? judgeCodes first_offending offending_place holds_other long_ends drop_ends literal_ends left_out stands explain_call climb chain_of digits clause_text clauses_text
pair_text = refl

-- (5 3 4): 5 holds none, and −3 holds −5
pub second_text : (asked 7).out ≡ bytes "-3 -5 0\n" ++ (1 ∷ 1 ∷ [])
unfolding and? or? if? not? so? every? eqᵇ? eqℤ? any filter absent first any_below all_below same_list numbers turned evens odds interleave twin arrive leave edge edges enters start_walk stamp_all outs froms tos reaches connected cyclic literal? holds? times? parent? start? nested? fresh? long? long_ok slots_at slots_from first_unsettled parts? literals? variable? spread? cursor? clauses? shape? shape_ok opening_of words_at header header_rest judge judge_text clauses_of clause_records literal_places variable_records laid load_call holds insert by_discovery scan_at scan figure6 transitive hidden_pair hidden_tautology unhidden shorten first_bad stamps_of stamped_tables stamp_acyclic stamp_settled stamp_ordered stamp_call sweep_clause ℕ_discrete dec_le dec_lt constant_programme programme_of passing? rules? fits? stamped? settled? judgeCodes first_offending offending_place holds_other long_ends drop_ends literal_ends left_out stands explain_call climb chain_of digits clause_text clauses_text
second_text = refl
