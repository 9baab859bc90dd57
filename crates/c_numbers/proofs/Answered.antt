-- What a reply leaves in the answer: where the call was made, where it is refused, and where the numbers cannot be read. Assumes nothing.
use Rattle.std.specs.Prelude.{Err}
use Prim.Native.Nat.{ℕ, zero, suc, ◌≤◌, ◌<◌}
use mathlib.Core.Bool.{Bool, true, false}
use mathlib.Core.Path.{◌≡◌, refl, sym, ap, ◌∙◌}
use mathlib.Core.List.{List, [], ◌∷◌}
use lib.ListN.{length, drop, set}
use lib.Dec.{leb}
use lib.IntN.{pos}
use borrow.Author.Tests.{le-leb, lt-leb}
use Rattle.state.specs.Answers.{Reply, reply_of, first_value, result_by}
use Rattle.state.specs.declared.Refusal.TheVariants.{Shape}
use Rattle.c_numbers.specs.StateNumbers.{put_front}
use Rattle.c_numbers.specs.CCalls.{values_of, put_answer_by, put_answer, refuse_unread}
use Rattle.c_numbers.proofs.Over.{one_over}

pub answer_made : (r : Reply) (a left : List ℕ) → r.number ≡ 0 → left ≡ put_front (values_of r) a → (pos 0 ≡ result_by r.number 0) × (left ≡ put_answer r a)
unfolding put_answer
answer_made r a left made e = (ap (λ (n : ℕ). result_by n 0) (sym made), e ∙ ap (λ (n : ℕ). put_answer_by n r a) (sym made))

pub answer_refused : (r : Reply) (a : List ℕ) (v : ℕ) → (r.number ≡ 0 → ⊥) → 1 ≤ length a → v ≡ first_value r.values → set a 0 v ≡ put_answer r a
unfolding put_answer
answer_refused r a v refused long e = one_over v a long ∙ ap (λ (x : ℕ). put_front (x ∷ []) a) e ∙ numbered r.number refused
  where
    numbered : (n : ℕ) → (n ≡ 0 → ⊥) → put_front (first_value r.values ∷ []) a ≡ put_answer_by n r a
    numbered zero d = absurd (d refl)
    numbered (suc n) d = refl

-- by whether the answer has four places
abbrev by_length : List ℕ → Bool → List ℕ
by_length a long = elim long [ true ↦ put_answer (reply_of (Err Shape)) a | false ↦ a ]

pub short_stays : (a : List ℕ) → length a < 4 → a ≡ refuse_unread a
unfolding refuse_unread
short_stays a h = ap (by_length a) (sym (lt-leb 4 (length a) h))

pub long_told : (a : List ℕ) → 4 ≤ length a → put_answer (reply_of (Err Shape)) a ≡ refuse_unread a
unfolding refuse_unread
long_told a h = ap (by_length a) (sym (le-leb 4 (length a) h))

-- the numbers behind the first stay, in a long answer and in a short one
pub unread_behind : (a : List ℕ) → drop 1 (refuse_unread a) ≡ drop 1 a
unfolding refuse_unread put_answer
unread_behind a = reading (leb 4 (length a))
  where
    reading : (long : Bool) → drop 1 (by_length a long) ≡ drop 1 a
    reading true = refl
    reading false = refl
