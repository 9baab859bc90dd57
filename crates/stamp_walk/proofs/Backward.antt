-- The test of the edges: some edge does not go forward exactly where `forward` says no.
-- Assumes nothing.
use Rattle.std.proofs.Common.{◌≡◌, length, ℕ, ◌<◌, ◌≤◌, Bool, false, not, ◌||◌, leb, List, [], ◌∷◌, get_or, refl, sym, ap, ◌∙◌, arith}
use Rattle.std.specs.List.{list_any}
use mathlib.Core.Logic.{⊎_elim}
use borrow.Author.Tests.{lt-ltb, le-ltb, le-leb, lt-leb}
use Rattle.base.specs.Decide.{le_or}
use Rattle.walk.specs.declared.SlotStamp.{SlotStamp}
use Rattle.walk.specs.Walk.{Stamps}
use Rattle.walk.specs.Compressed.{stamps}
use Rattle.walk.specs.Slots.{finishes_of}
use Rattle.walk.proofs.Columns.{blank_stamp, finish_at, finishes_long}
use Rattle.implications.specs.declared.Edge.{Edge}
use Rattle.implications.specs.EdgeList.{froms_of, tos_of}
use Rattle.implications.proofs.EdgeLists.{many_froms, from_at, to_at}
use Rattle.scc.specs.Forward.{forward}
use Rattle.stamp_walk.specs.Stamping.{Finished}

-- the ends of an edge have a stamp
abbrev pub edge_at : List Edge → ℕ → Edge
edge_at es i = get_or es i (record { from = 0; to = 0 })

pub tail_in : (es : List Edge) (l : List SlotStamp) (i : ℕ) → Finished (froms_of es) (tos_of es) (finishes_of l) → i < length es → (edge_at es i).from < length l
tail_in es l i F lt = omega (arith, F.tails i (omega (arith, many_froms es)), from_at es i, finishes_long l)

pub head_in : (es : List Edge) (l : List SlotStamp) (i : ℕ) → Finished (froms_of es) (tos_of es) (finishes_of l) → i < length es → (edge_at es i).to < length l
head_in es l i F lt = omega (arith, F.heads i (omega (arith, many_froms es)), to_at es i, finishes_long l)

-- when a slot is finished
abbrev pub finish_of : List SlotStamp → ℕ → ℕ
finish_of l q = (get_or l q blank_stamp).finish

-- an edge goes to a slot that does not finish before its own
abbrev pub backward : List SlotStamp → Edge → Bool
backward l e = leb (finish_of l e.from) (finish_of l e.to)

pub any_backward_is : (l : List SlotStamp) (t : ℕ) (d p s : List ℕ) (es : List Edge) → list_any (backward l) es ≡ not (forward (stamps t d (finishes_of l) p s) (froms_of es) (tos_of es))
unfolding forward
any_backward_is l t d p s [] = refl
any_backward_is l t d p s (e ∷ es) =
    let σ : Stamps = stamps t d (finishes_of l) p s in
    let tail : get_or (finishes_of l) e.from 0 ≡ finish_of l e.from = finish_at l e.from in
    let head : get_or (finishes_of l) e.to 0 ≡ finish_of l e.to = finish_at l e.to in
    let rest : Bool = list_any (backward l) es in
    ⊎_elim
    (λ (le : finish_of l e.from ≤ finish_of l e.to).
    let stops : forward σ (froms_of (e ∷ es)) (tos_of (e ∷ es)) ≡ false = rw (le-ltb (get_or (finishes_of l) e.to 0) (get_or (finishes_of l) e.from 0) (omega arith), forward) in
    ap (λ (b : Bool). b || rest) (le-leb (finish_of l e.from) (finish_of l e.to) le) ∙ sym (ap not stops))
    (λ (lt : finish_of l e.to < finish_of l e.from).
    let on : forward σ (froms_of (e ∷ es)) (tos_of (e ∷ es)) ≡ forward σ (froms_of es) (tos_of es) = rw (lt-ltb (get_or (finishes_of l) e.to 0) (get_or (finishes_of l) e.from 0) (omega arith), forward) in
    ap (λ (b : Bool). b || rest) (lt-leb (finish_of l e.from) (finish_of l e.to) lt) ∙ any_backward_is l t d p s es ∙ sym (ap not on))
    (le_or (finish_of l e.from) (finish_of l e.to))
