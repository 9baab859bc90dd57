-- The pairs so far are good, their variables are marked, and each right one has its left one in `numbering`.
use Rattle.std.proofs.Common.{◌≡◌, ◌*◌, drop}
use Rattle.std.specs.Slice.Iter.{chunks_rest, chunks_size}
use Rattle.std.specs.Iterator.Adapters.{enumerate_source, enumerate_count}
use Rattle.join.proofs.Linking.{Linking}
use Rattle.join.proofs.link.Given as goal

abbrev pub invariant-loop-i : goal.invariant-loop-i
invariant-loop-i l =
    Linking l.v l.w l.pairs l.numbering l.lefts l.rights (enumerate_count l.i-iterator)
    × (chunks_size (enumerate_source l.i-iterator) ≡ 2)
    × (chunks_rest (enumerate_source l.i-iterator) ≡ drop (2 * enumerate_count l.i-iterator) l.pairs)
