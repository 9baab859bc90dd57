-- Worked cases, computed on the definitions: texts with two violations, and which of the two wins. Assumes nothing.
use native.Mathlib.Omega.{arith}
use Prim.Native.Nat.{ℕ}
use mathlib.Core.Path.{◌≡◌, refl}
use mathlib.Core.Bool.{false}
use mathlib.Core.List.{List, []}
use mathlib.Core.Logic.{inr}
use Rattle.dimacs.specs.Words.{words_at}
use Rattle.dimacs.specs.Header.{header, header_rest}
use Rattle.dimacs.specs.Text.{judge, judge_text}
use Rattle.state.specs.declared.Refusal.TheVariants.{Grammar, Limit}
use Rattle.base.specs.Bytes.{bytes}
use Rattle.violations.specs.Body.{noughts, broken, beyond, after_last, unfinished, too_few}
use Rattle.violations.specs.Grammar.{EachLine, commented, Digits, Numeral, NoDigit, large_v}
use Rattle.violations.proofs.Pieces.{no_space, of_v}
use Rattle.violations.proofs.Limits.{piece_header}
use Rattle.violations.proofs.Headed.{fields_headed}
use Rattle.violations.specs.Violations.{Violation, in_header, at_word, at_end, Wins}
use Rattle.violations.proofs.Smallest.{refused_wins}

-- a text with a violation of number a at offset i and one of number b at offset j, of which the first wins
pub record Both (text : List ℕ) (a i b j : ℕ) : Type 0 where
  pub first : Violation text a i
  pub second : Violation text b j
  pub wins : Wins (Violation text) a i

-- a literal beyond V stands before a word that is no token, and behind one
pub limit_first : Both (bytes "p cnf 1 1\n2 01 0") 3 10 2 12
unfolding judge_text judge words_at header header_rest
limit_first = record {
  first = at_word 1 1 10 3 10 (fields_headed (bytes "p cnf 1 1\n2 01 0") 1 1 10 refl) (beyond 0 false 2 (omega arith) refl (omega arith));
  second = at_word 1 1 10 2 12 (fields_headed (bytes "p cnf 1 1\n2 01 0") 1 1 10 refl) (broken 1 (omega arith) refl);
  wins = refused_wins (bytes "p cnf 1 1\n2 01 0") (Limit 10) refl;
}

pub grammar_first : Both (bytes "p cnf 1 1\n01 2 0") 2 10 3 13
unfolding judge_text judge words_at header header_rest
grammar_first = record {
  first = at_word 1 1 10 2 10 (fields_headed (bytes "p cnf 1 1\n01 2 0") 1 1 10 refl) (broken 0 (omega arith) refl);
  second = at_word 1 1 10 3 13 (fields_headed (bytes "p cnf 1 1\n01 2 0") 1 1 10 refl) (beyond 1 false 2 (omega arith) refl (omega arith));
  wins = refused_wins (bytes "p cnf 1 1\n01 2 0") (Grammar 10) refl;
}

-- at equal offsets 2: an unfinished clause, where a clause is missing besides
pub equal_offsets : Both (bytes "p cnf 1 2\n1\n") 2 12 3 12
unfolding judge_text judge words_at header header_rest noughts
equal_offsets = record {
  first = at_end 1 2 10 2 (fields_headed (bytes "p cnf 1 2\n1\n") 1 2 10 refl) (unfinished (record { index = 0; inside = omega arith; negative = false; magnitude = 1; means = refl; unended = refl }));
  second = at_end 1 2 10 3 (fields_headed (bytes "p cnf 1 2\n1\n") 1 2 10 refl) (too_few (omega arith));
  wins = refused_wins (bytes "p cnf 1 2\n1\n") (Grammar 12) refl;
}

-- a token behind the last clause, and a word behind it that is no token
pub past_the_last : Both (bytes "p cnf 1 1\n1 0 1 x") 3 14 2 16
unfolding judge_text judge words_at header header_rest noughts
past_the_last = record {
  first = at_word 1 1 10 3 14 (fields_headed (bytes "p cnf 1 1\n1 0 1 x") 1 1 10 refl) (after_last 2 (omega arith) (λ e. let z : ◌≡◌ {A = ℕ} 0 1 = cc in omega arith) (omega arith));
  second = at_word 1 1 10 2 16 (fields_headed (bytes "p cnf 1 1\n1 0 1 x") 1 1 10 refl) (broken 3 (omega arith) refl);
  wins = refused_wins (bytes "p cnf 1 1\n1 0 1 x") (Limit 14) refl;
}

-- in the header: V is above 1,024, and no space stands behind it
pub header_twice : Both (bytes "p cnf 1025x 1") 3 6 2 10
unfolding judge_text header header_rest EachLine commented Digits Numeral NoDigit
header_twice = record {
  first = in_header 3 6 (large_v (bytes "1025") 6 (record {
    lines = [];
    lined = tt;
    numeral = inr ((λ e. omega arith), (refl, (refl, (refl, (refl, tt)))));
    rest = bytes "x 1";
    whole = refl;
    written = refl;
    place = refl;
  }) (omega arith));
  second = in_header 2 10 (piece_header (bytes "p cnf 1025x 1") 2 10 (of_v 0 6 2 10 refl refl (no_space 10 (omega arith) refl)));
  wins = refused_wins (bytes "p cnf 1025x 1") (Limit 6) refl;
}
