-- What the program prints, by the length of its input and by the answer of the call on texts. Assumes nothing.
use Prim.Native.Nat.{ℕ, zero, suc, ◌≤◌, ◌<◌}
use mathlib.Core.Path.{◌≡◌, refl, sym, ap, ◌∙◌}
use mathlib.Core.List.{List}
use lib.ListN.{length, take, replicate}
use borrow.Author.Tests.{lt-ltb, le-ltb}
use Rattle.state.specs.Answers.{reply_of, first_value}
use Rattle.std.specs.Prelude.{Result}
use Rattle.state.specs.declared.Answer.{Answer}
use Rattle.state.specs.declared.Refusal.{Refusal}
use Rattle.printing.specs.Printing.{refused_line}
use Rattle.write.specs.Write.{after_write}
use Rattle.simplify.specs.Texts.{simplify_text, shown, shown_after, unhide_text}

module _ (input : List ℕ) where
  -- more than 65,535 bytes
  pub long_printed : 65535 < length input → refused_line 3 65535 ≡ unhide_text input
  unfolding unhide_text
  long_printed h = rw (lt-ltb 65535 (length input) h, unhide_text)

  short_printed : length input ≤ 65535 → shown_after (simplify_text input 1 (replicate 65536 0)) ≡ unhide_text input
  unfolding unhide_text
  short_printed h = rw (le-ltb 65535 (length input) h, unhide_text)

  module _ (few : length input ≤ 65535) (a : Result Answer Refusal) (out : List ℕ) (is : after_write a out ≡ simplify_text input 1 (replicate 65536 0)) where
    shown_is : shown (reply_of a).number (reply_of a).values out ≡ unhide_text input
    shown_is = ap shown_after is ∙ short_printed few

    -- what was written
    pub written_printed : (reply_of a).number ≡ 0 → take (first_value (reply_of a).values) out ≡ unhide_text input
    written_printed e = ap (λ (n : ℕ). shown n (reply_of a).values out) (sym e) ∙ shown_is

    -- the refusal line
    pub refused_printed : ((reply_of a).number ≡ 0 → ⊥) → refused_line (reply_of a).number (first_value (reply_of a).values) ≡ unhide_text input
    refused_printed d = go (reply_of a).number d ∙ shown_is
      where
        go : (n : ℕ) → (n ≡ 0 → ⊥) → refused_line n (first_value (reply_of a).values) ≡ shown n (reply_of a).values out
        go zero d = absurd (d refl)
        go (suc n) d = refl
