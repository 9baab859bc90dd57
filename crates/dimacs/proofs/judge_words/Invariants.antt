-- The words from here on, judged with what is left, are judged as the whole body is, and the numbers of the words before are kept. The
-- measure is what is left of the text.
use Rattle.std.proofs.Common.{◌-◌, length}
use Rattle.dimacs.proofs.Numbers.{Keeping}
use Rattle.dimacs.proofs.judge_words.Given as goal

abbrev pub invariant-loop-start : goal.invariant-loop-start
invariant-loop-start l = Keeping l.text l.v l.n l.body l.initial.numbers l.numbers l.at l.clauses l.literals l.unfinished l.k

abbrev pub decreases-loop-start : goal.decreases-loop-start
decreases-loop-start l = length l.text - l.at
