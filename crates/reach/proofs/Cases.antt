-- Worked examples of change request 13, through load, Stamp and Sweep, under 1, −1, 2, −2, ..: what is seen of the tables, by computation, and what that says of reach. Assumes nothing.
--     P3   a transitive pair is dropped, nothing is shortened, and its arrow is still reached
--     P2   a clause of three literals is shortened to two and adds an arrow: where clauses of three or more may be shortened, reach may grow
--     P6   a pair is shortened and an arrow is lost: where pairs may be shortened, reach may shrink
use Prim.Native.String.{String}
use Prim.Native.Nat.{ℕ, zero, suc}
use native.Mathlib.Decide.{ℕ_discrete, dec_le, dec_lt}
use native.Mathlib.Omega.{arith}
use mathlib.Core.Path.{◌≡◌, refl, sym, ap, subst, ◌∙◌}
use mathlib.Core.Bool.{Bool, true, false, false≢true}
use mathlib.Core.Logic.{◌↔◌, ⊎_elim}
use mathlib.Core.List.Memᴰ
use mathlib.Core.List.{List, [], ◌∷◌, map}
use lib.ListN.{length, get_or}
use lib.IntN.{ℤ, pos, negsuc}
use Rattle.base.specs.Bytes.{bytes}
use Rattle.base.specs.Decide.{and?, or?, if?, not?, so?, every?, eqᵇ?, eqℤ?}
use Rattle.base.specs.Lists.{any, filter, absent, first, any_below, all_below, same_list, numbers, turned, evens, odds, interleave}
use Rattle.literal.specs.Literals.{Literal, twin}
use Rattle.walk.specs.Walk.{arrive, leave, edge, edges, enters, start_walk, stamp_all}
use Rattle.implications.specs.Edges.{outs}
use Rattle.implications.specs.Clauses.{froms, tos}
use Rattle.scc.specs.Groups.{reaches, connected, cyclic}
use Rattle.stamps.specs.Decision.{literal?, holds?, times?, parent?, start?, nested?, fresh?}
use Rattle.state.specs.States.{empty_state}
use Rattle.state.specs.Programmes.{programme_of, constant_programme}
use Rattle.programmes.specs.Judging.{settled?, stamped?, fits?, rules?, passing?, offending_place, first_offending, judge as judgeCodes}
use Rattle.tables.specs.Long.{long?, long_ok}
use Rattle.tables.specs.Clauses.{slots_at, slots_from, standing_count, literal_count}
use Rattle.tables.specs.Fates.{shortened, dropped_at, fate_at, visits}
use Rattle.tables.specs.Passes.{advance, first_unsettled}
use Rattle.shape.specs.Decision.{parts?, literals?, variable?, spread?, cursor?, clauses?, shape?, shape_ok}
use Rattle.shape.proofs.Reading.{shaped}
use Rattle.entry.specs.Entry.{entry_of, opening_of}
use Rattle.dimacs.specs.Words.{words_at}
use Rattle.dimacs.specs.Header.{header, header_rest}
use Rattle.dimacs.specs.Text.{judge, judge_text, clauses_of}
use Rattle.load.specs.Load.{clause_records, literal_places, variable_records, laid, load_call}
use Rattle.hidden.specs.Hidden.{holds, insert, by_discovery, scan_at, scan, figure6, transitive, hidden_pair, hidden_tautology, unhidden, shorten}
use Rattle.stamp.specs.Stamp.{first_bad, stamps_of, stamped_tables, stamp_acyclic, stamp_settled, stamp_ordered, stamp_call}
use Rattle.sweep.specs.Sweep.{sweep_call}
use Rattle.sweep_visits.specs.Clause.{sweep_clause}
use Rattle.simplify.specs.Texts.{empty_tables}
use Rattle.paper.specs.Clauses.{clause_at, flag_at}
use Rattle.call_lists.specs.Lists.{Call, stamp, sweep, Lent, Step, Trail, step_on, steps_on}
use Rattle.reach.specs.Reach.{Reached, reached?, Shortened, PairsWhole, AllWhole, ReachKept}
use Rattle.reach.specs.Following.{Follows, Following}
use Rattle.reach.proofs.Graph.{reached_exact}
use Rattle.call_lists.specs.Starts.{load}
use Rattle.reach.proofs.Kept.{loaded_reach}

-- ---- an example

-- a text is loaded into empty tables and stamped, and one Sweep is made; is `to` reached from `from`?
pub record Example : Type 0 where
  pub text : String
  pub order : List ℤ
  pub steps : ℕ
  pub from : ℤ
  pub to : ℤ

-- every table is lent as stated
abbrev stated : Lent
stated = record { clauses = 12288; literals = 16384; variables = 2048; times = 4096; links = 4096 }

abbrev whole : Call → Step
whole c = record { call = c; lent = stated }

abbrev after : Example → List Call → Trail
after x cs = steps_on (map whole cs) (load_call (bytes x.text) empty_tables empty_state).tables (load_call (bytes x.text) empty_tables empty_state).state

-- as Stamp left it, and behind the Sweep
abbrev then : Example → Trail
then x = after x (stamp x.order ∷ [])

abbrev now : Example → Trail
now x = after x (stamp x.order ∷ sweep x.steps ∷ [])

abbrev ReachedIn : Example → Trail → Type 0
ReachedIn x w = Reached w.tables w.state.n x.from x.to

-- ---- what is seen

-- the refusal numbers of the replies, whether the tables keep the shape rule, V and N, of the first three clauses whether they stand and their literals, and the example's answer
pub record Seen : Type 0 where
  pub refusals : List ℕ
  pub shape : Bool
  pub v : ℕ
  pub n : ℕ
  pub flags : List ℕ
  pub clauses : List (List ℤ)
  pub reached : Bool

abbrev three : List ℕ
three = 0 ∷ 1 ∷ 2 ∷ []

abbrev see : Example → Trail → Seen
see x w =
    record {
      refusals = map (λ r. r.number) w.replies;
      shape = shape_ok w.tables w.state;
      v = w.state.v;
      n = w.state.n;
      flags = map (flag_at w.tables) three;
      clauses = map (clause_at w.tables) three;
      reached = reached? w.tables w.state x.from x.to;
    }

-- the tables keep the shape rule
abbrev sees : List ℕ → ℕ → ℕ → List ℕ → List (List ℤ) → Bool → Seen
sees refusals v n flags clauses reached = record { refusals = refusals; shape = true; v = v; n = n; flags = flags; clauses = clauses; reached = reached }

module _ (x : Example) (w : Trail) {s : Seen} (e : see x w ≡ s) where
  -- clause i
  stands : (i : ℕ) → get_or (map (flag_at w.tables) three) i 0 ≡ get_or s.flags i 0
  stands i = ap (λ (y : Seen). get_or y.flags i 0) e

  size : (i : ℕ) → length (get_or (map (clause_at w.tables) three) i []) ≡ length (get_or s.clauses i [])
  size i = ap (λ (y : Seen). length (get_or y.clauses i [])) e

  number : w.state.n ≡ s.n
  number = ap (λ (y : Seen). y.n) e

  -- the example's answer, where both are literals of the variables
  exact : s.shape ≡ true → Literal s.v x.from → Literal s.v x.to → (s.reached ≡ true) ↔ ReachedIn x w
  exact keeps P Q =
      subst (λ (b : Bool). (b ≡ true) ↔ ReachedIn x w) (ap (λ (y : Seen). y.reached) e)
      (reached_exact w.tables w.state (shaped w.tables w.state (ap (λ (y : Seen). y.shape) e ∙ keeps)) x.from x.to (at_v x.from P) (at_v x.to Q))
    where
      at_v : (l : ℤ) → Literal s.v l → Literal w.state.v l
      at_v l L = subst (λ (v : ℕ). Literal v l) (sym (ap (λ (y : Seen). y.v) e)) L

-- one Sweep, as a list of calls that follow a Stamp
one_sweep : (n : ℕ) → Following (whole (sweep n) ∷ [])
one_sweep n s m = ⊎_elim (λ (e : s ≡ whole (sweep n)). subst (λ (x : Step). Follows x.call) (sym e) tt) (λ none. absurd (Memᴰ.not-nil none)) (Memᴰ.cases_cons m)

-- ---- the three examples

abbrev p3 : Example
p3 = record { text = "p cnf 3 3\n-1 2 0\n-2 3 0\n-1 3 0\n"; order = pos 1 ∷ negsuc 0 ∷ pos 2 ∷ negsuc 1 ∷ pos 3 ∷ negsuc 2 ∷ []; steps = 3; from = pos 1; to = pos 3 }

abbrev p2 : Example
p2 = record { text = "p cnf 4 3\n-1 2 0\n-2 3 0\n1 3 4 0\n"; order = pos 1 ∷ negsuc 0 ∷ pos 2 ∷ negsuc 1 ∷ pos 3 ∷ negsuc 2 ∷ pos 4 ∷ negsuc 3 ∷ []; steps = 3; from = negsuc 2; to = pos 4 }

abbrev p6 : Example
p6 = record { text = "p cnf 2 2\n-1 2 0\n-1 -2 0\n"; order = pos 1 ∷ negsuc 0 ∷ pos 2 ∷ negsuc 1 ∷ []; steps = 1; from = pos 1; to = pos 2 }

seen : ((see p3 (then p3) ≡ sees (0 ∷ []) 3 3 (1 ∷ 1 ∷ 1 ∷ []) ((negsuc 0 ∷ pos 2 ∷ []) ∷ (negsuc 1 ∷ pos 3 ∷ []) ∷ (negsuc 0 ∷ pos 3 ∷ []) ∷ []) true)
    × (see p3 (now p3) ≡ sees (0 ∷ 0 ∷ []) 3 3 (1 ∷ 1 ∷ 0 ∷ []) ((negsuc 0 ∷ pos 2 ∷ []) ∷ (negsuc 1 ∷ pos 3 ∷ []) ∷ [] ∷ []) true))
    × ((see p2 (then p2) ≡ sees (0 ∷ []) 4 3 (1 ∷ 1 ∷ 1 ∷ []) ((negsuc 0 ∷ pos 2 ∷ []) ∷ (negsuc 1 ∷ pos 3 ∷ []) ∷ (pos 1 ∷ pos 3 ∷ pos 4 ∷ []) ∷ []) false)
    × (see p2 (now p2) ≡ sees (0 ∷ 0 ∷ []) 4 3 (1 ∷ 1 ∷ 1 ∷ []) ((negsuc 0 ∷ pos 2 ∷ []) ∷ (negsuc 1 ∷ pos 3 ∷ []) ∷ (pos 3 ∷ pos 4 ∷ []) ∷ []) true))
    × ((see p6 (then p6) ≡ sees (0 ∷ []) 2 2 (1 ∷ 1 ∷ 0 ∷ []) ((negsuc 0 ∷ pos 2 ∷ []) ∷ (negsuc 0 ∷ negsuc 1 ∷ []) ∷ [] ∷ []) true)
    × (see p6 (now p6) ≡ sees (0 ∷ 0 ∷ []) 2 2 (1 ∷ 1 ∷ 0 ∷ []) ((negsuc 0 ∷ []) ∷ (negsuc 0 ∷ negsuc 1 ∷ []) ∷ [] ∷ []) false))
unfolding and? or? if? not? so? every? eqᵇ? eqℤ? any filter absent first any_below all_below same_list numbers turned evens odds interleave twin arrive leave edge edges enters start_walk stamp_all outs froms tos reaches connected cyclic literal? holds? times? parent? start? nested? fresh? long? long_ok slots_at slots_from standing_count literal_count shortened dropped_at fate_at visits advance first_unsettled parts? literals? variable? spread? cursor? clauses? shape? shape_ok entry_of opening_of words_at header header_rest judge judge_text clauses_of clause_records literal_places variable_records laid load_call holds insert by_discovery scan_at scan figure6 transitive hidden_pair hidden_tautology unhidden shorten first_bad stamps_of stamped_tables stamp_acyclic stamp_settled stamp_ordered stamp_call sweep_clause sweep_call step_on steps_on ℕ_discrete dec_le dec_lt constant_programme programme_of passing? rules? fits? stamped? settled? judgeCodes first_offending offending_place reached?
seen = ((refl, refl), (refl, refl), (refl, refl))

-- ---- P3: (−1 2)(−2 3)(−1 3), and the arrow 1 → 3

-- the third is dropped, so that no clause is shortened
whole₃ : AllWhole (then p3).state.n (then p3).tables (now p3).tables
whole₃ zero lt s = omega (arith, s.fewer, size p3 (then p3) seen.0.0 0, size p3 (now p3) seen.0.1 0)
whole₃ (suc zero) lt s = omega (arith, s.fewer, size p3 (then p3) seen.0.0 1, size p3 (now p3) seen.0.1 1)
whole₃ (suc (suc zero)) lt s = omega (arith, s.stands, stands p3 (now p3) seen.0.1 2)
whole₃ (suc (suc (suc i))) lt s = omega (arith, lt, number p3 (then p3) seen.0.0)

-- by the theorem 3 is still reached from 1, and nothing is reached that was not
still_reached : (flag_at (now p3).tables 2 ≡ 0) × ReachedIn p3 (now p3) × ((p q : ℤ) → Reached (now p3).tables (now p3).state.n p q → Reached (then p3).tables (then p3).state.n p q)
unfolding steps_on
still_reached = (stands p3 (now p3) seen.0.1 2, (kept.same whole₃ (pos 1) (pos 3)).0 was_reached, λ p q. (kept.same whole₃ p q).1)
  where
    kept : ReachKept (then p3).tables (then p3).state (now p3).tables (now p3).state
    kept = loaded_reach (load (bytes p3.text)) empty_tables empty_state [] p3.order stated (ap (λ (x : Seen). get_or x.refusals 0 1) seen.0.0) (whole (sweep 3) ∷ []) (one_sweep 3)

    was_reached : ReachedIn p3 (then p3)
    was_reached = (exact p3 (then p3) seen.0.0 refl (record { above = omega arith; within = omega arith }) (record { above = omega arith; within = omega arith })).0 refl

-- ---- P2: (−1 2)(−2 3)(1 3 4), and the arrow −3 → 4

-- the third is shortened, and it is no pair
pairs₂ : PairsWhole (then p2).state.n (then p2).tables (now p2).tables
pairs₂ zero lt two s = omega (arith, s.fewer, two, size p2 (now p2) seen.1.1 0)
pairs₂ (suc zero) lt two s = omega (arith, s.fewer, two, size p2 (now p2) seen.1.1 1)
pairs₂ (suc (suc zero)) lt two s = omega (arith, two, size p2 (then p2) seen.1.0 2)
pairs₂ (suc (suc (suc i))) lt two s = omega (arith, lt, number p2 (then p2) seen.1.0)

-- 4 was not reached from −3, and now it is
arrow_added : Shortened (then p2).tables (now p2).tables 2 × (ReachedIn p2 (then p2) → ⊥) × ReachedIn p2 (now p2)
arrow_added = (
  record { stood = stands p2 (then p2) seen.1.0 2; stands = stands p2 (now p2) seen.1.1 2; fewer = omega (arith, size p2 (then p2) seen.1.0 2, size p2 (now p2) seen.1.1 2) },
  λ r. false≢true ((exact p2 (then p2) seen.1.0 refl (record { above = omega arith; within = omega arith }) (record { above = omega arith; within = omega arith })).1 r),
  (exact p2 (now p2) seen.1.1 refl (record { above = omega arith; within = omega arith }) (record { above = omega arith; within = omega arith })).0 refl,
)

-- ---- P6: (−1 2)(−1 −2), and the arrow 1 → 2; the Sweep is stopped after one visit

-- the first, a pair, is shortened; 2 was reached from 1, and now it is not
arrow_lost : Shortened (then p6).tables (now p6).tables 0 × ReachedIn p6 (then p6) × (ReachedIn p6 (now p6) → ⊥)
arrow_lost = (
  record { stood = stands p6 (then p6) seen.2.0 0; stands = stands p6 (now p6) seen.2.1 0; fewer = omega (arith, size p6 (then p6) seen.2.0 0, size p6 (now p6) seen.2.1 0) },
  (exact p6 (then p6) seen.2.0 refl (record { above = omega arith; within = omega arith }) (record { above = omega arith; within = omega arith })).0 refl,
  λ r. false≢true ((exact p6 (now p6) seen.2.1 refl (record { above = omega arith; within = omega arith }) (record { above = omega arith; within = omega arith })).1 r),
)
