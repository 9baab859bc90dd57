-- Worked cases of the shape rule, as one lemma over a list: P2's tables with one place changed each, and whether the rule holds. Assumes nothing.
use Prim.Native.Nat.{ℕ, ◌-◌}
use native.Mathlib.Decide.{ℕ_discrete, dec_le, dec_lt}
use mathlib.Core.Path.{◌≡◌, refl}
use mathlib.Core.Bool.{Bool, true, false}
use mathlib.Core.List.{List, [], ◌∷◌, ◌++◌}
use lib.ListN.{length, set, replicate}
use lib.IntN.{ℤ, pos, negsuc}
use Rattle.base.specs.Decide.{and?, or?, if?, not?, so?, every?, eqᵇ?, eqℤ?}
use Rattle.stamps.specs.Decision.{literal?, holds?, times?, parent?, start?, nested?, fresh?}
use Rattle.state.specs.Programmes.{programme_of, constant_programme}
use Rattle.state.specs.States.{state, programmed}
use Rattle.programmes.specs.Judging.{settled?, stamped?, fits?, rules?, passing?}
use Rattle.tables.specs.Tables.{Tables, tables}
use Rattle.tables.specs.Long.{long?}
use Rattle.shape.specs.Decision.{parts?, literals?, variable?, spread?, cursor?, clauses?, shape?, shape_ok}
use Rattle.state.specs.declared.State.{State}
use Rattle.state.specs.declared.Pass.TheVariants.{Idle, Merge, Sweep}

abbrev padℕ : ℕ → List ℕ → List ℕ
padℕ n l = l ++ replicate (n - length l) 0

abbrev padℤ : ℕ → List ℤ → List ℤ
padℤ n l = l ++ replicate (n - length l) (pos 0)

-- (-1 2)(-2 3)(1 3 4), stamped in the order 1, -1, 2, -2, ..
abbrev clauses₂ : List ℕ
clauses₂ = 0 ∷ 2 ∷ 1 ∷ 2 ∷ 2 ∷ 1 ∷ 4 ∷ 3 ∷ 1 ∷ []

abbrev literals₂ : List ℤ
literals₂ = negsuc 0 ∷ pos 2 ∷ negsuc 1 ∷ pos 3 ∷ pos 1 ∷ pos 3 ∷ pos 4 ∷ []

abbrev variables₂ : List ℤ
variables₂ = pos 1 ∷ pos 0 ∷ pos 2 ∷ pos 0 ∷ pos 3 ∷ pos 0 ∷ pos 4 ∷ pos 0 ∷ []

abbrev times₂ : List ℕ
times₂ = 1 ∷ 6 ∷ 9 ∷ 10 ∷ 2 ∷ 5 ∷ 8 ∷ 11 ∷ 3 ∷ 4 ∷ 7 ∷ 12 ∷ 13 ∷ 14 ∷ 15 ∷ 16 ∷ []

abbrev links₂ : List ℤ
links₂ = pos 1 ∷ pos 1 ∷ negsuc 1 ∷ negsuc 2 ∷ pos 1 ∷ pos 1 ∷ negsuc 2 ∷ negsuc 2 ∷ pos 2 ∷ pos 1 ∷ negsuc 2 ∷ negsuc 2 ∷ pos 4 ∷ pos 4 ∷ negsuc 3 ∷ negsuc 3 ∷ []

abbrev full : List ℕ → List ℤ → List ℤ → List ℕ → List ℤ → Tables
full c l v t k = tables (padℕ 12288 c) (padℤ 16384 l) (padℤ 2048 v) (padℕ 4096 t) (padℤ 4096 k)

record Case : Type 0 where
  given : Tables
  with' : State
  answer : Bool

abbrev case : Tables → State → Bool → Case
case t st b = record { given = t; with' = st; answer = b }

abbrev All : List Case → Type 0
All [] = Unit {0}
All (k ∷ ks) = (shape_ok k.given k.with' ≡ k.answer) × All ks

-- the tables of P2, with a place changed
abbrev clause : ℕ → ℕ → Tables
clause i x = full (set clauses₂ i x) literals₂ variables₂ times₂ links₂

abbrev literal : ℕ → ℤ → Tables
literal i x = full clauses₂ (set literals₂ i x) variables₂ times₂ links₂

abbrev variable : ℕ → ℤ → Tables
variable i x = full clauses₂ literals₂ (set variables₂ i x) times₂ links₂

abbrev time : ℕ → ℕ → Tables
time i x = full clauses₂ literals₂ variables₂ (set times₂ i x) links₂

abbrev link : ℕ → ℤ → Tables
link i x = full clauses₂ literals₂ variables₂ times₂ (set links₂ i x)

abbrev right : Tables
right = full clauses₂ literals₂ variables₂ times₂ links₂

abbrev idle : State
idle = state 4 3 Idle true false constant_programme

-- a fifth variable, of a class and a value, where variable 1 has a value
abbrev merged : ℤ → ℤ → ℤ → Tables
merged value₁ class value = full clauses₂ literals₂ (set variables₂ 1 value₁ ++ (class ∷ value ∷ [])) times₂ links₂

abbrev five : State
five = state 5 3 Idle false false constant_programme

-- a state whose programme has these places and this length
abbrev coded : ℕ → List ℕ → State
coded length codes = programmed (record { codes = codes; length = length }) idle

abbrev cases : List Case
cases =
    case right idle true
    ∷ case (full [] [] [] [] []) (state 0 0 Idle true false constant_programme) true
    ∷ case (link 8 (pos 1)) idle false  -- the parent of 3 is 2
    ∷ case (link 9 (pos 2)) idle false  -- the start of 3 is 1
    ∷ case (link 9 (pos 2)) (state 4 3 Idle false false constant_programme) true  -- stamps that are not fresh may be anything
    ∷ case (time 1 4) idle false  -- 4 twice
    ∷ case (time 1 17) idle false  -- not 1 to 16
    ∷ case (clause 4 3) idle false  -- two parts overlap
    ∷ case (clause 3 1) idle false  -- likewise, from the other side
    ∷ case (clause 5 2) idle false  -- a flag of 2
    ∷ case (clause 5 0) idle false  -- dropped, with places
    ∷ case (clause 4 0) idle false  -- standing empty
    ∷ case (clause 4 0) (state 4 3 Idle true true constant_programme) true  -- the same under the mark
    ∷ case (literal 4 (pos 5)) idle false  -- out of range
    ∷ case (literal 4 (negsuc 2)) idle false  -- 3 twice
    ∷ case (variable 6 (negsuc 0)) idle false  -- the class of 4 is -1, and 4 stands in a clause
    ∷ case (variable 6 (negsuc 0)) (state 4 3 (Merge 2) true false constant_programme) true  -- which an open Merge has still to visit
    ∷ case (variable 7 (negsuc 1)) idle false  -- a value of -2
    ∷ case (merged (pos 1) (pos 1) (pos 1)) five true  -- the value of 5 is that of its class 1
    ∷ case (merged (pos 1) (pos 1) (pos 0)) five false  -- not the base's zero
    ∷ case (merged (pos 0) (pos 1) (pos 1)) five false  -- nor a value where the class has none
    ∷ case (merged (pos 1) (negsuc 0) (negsuc 0)) five true  -- the class is -1: sign included
    ∷ case (merged (pos 1) (negsuc 0) (pos 1)) five false  -- the sign left out
    ∷ case (merged (negsuc 0) (negsuc 0) (pos 1)) five true
    ∷ case (merged (pos 0) (negsuc 0) (pos 0)) five true
    ∷ case right (state 4 3 (Sweep 3) true false constant_programme) false  -- a cursor past the last clause
    ∷ case right (state 4 3 (Sweep 2) true true constant_programme) false  -- open under the mark
    ∷ case (tables (padℕ 12287 clauses₂) (padℤ 16384 literals₂) (padℤ 2048 variables₂) (padℕ 4096 times₂) (padℤ 4096 links₂)) idle false
    ∷ case right (coded 1 (padℕ 32 (1 ∷ []))) true  -- a programme of one code
    ∷ case right (coded 2 (padℕ 32 (1 ∷ 3 ∷ []))) false  -- of a failed without a stamp
    ∷ case right (coded 1 (padℕ 32 (1 ∷ 3 ∷ 9 ∷ []))) true  -- behind its length anything may stand
    ∷ case right (coded 0 (padℕ 32 (1 ∷ []))) false  -- of no code
    ∷ case right (coded 32 (1 ∷ 2 ∷ replicate 30 3)) true
    ∷ case right (coded 33 (1 ∷ 2 ∷ replicate 30 3)) false  -- of more codes than there are places
    ∷ []

holds : All cases
unfolding constant_programme programme_of shape_ok shape? passing? rules? fits? stamped? settled? long? clauses? parts? literals? variable? spread? cursor? fresh? times? parent? start? nested? holds? literal? and? or? if? not? so? every? eqᵇ? eqℤ? ℕ_discrete dec_le dec_lt
holds = (refl, (refl, (refl, (refl, (refl, (refl, (refl, (refl, (refl, (refl, (refl, (refl, (refl, (refl, (refl, (refl, (refl, (refl, (refl, (refl, (refl, (refl, (refl, (refl, (refl, (refl, (refl, (refl, (refl, (refl, (refl, (refl, (refl, (refl, tt))))))))))))))))))))))))))))))))))
