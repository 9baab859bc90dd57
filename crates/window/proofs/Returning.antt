-- What the functions return, in the words of the definitions. Assumes nothing.
use Prim.Native.Nat.{ℕ, ◌+◌, ◌*◌, ◌-◌, ◌≤◌}
use native.Mathlib.Omega.{arith}
use mathlib.Core.Path.{◌≡◌, sym, ap, ◌∙◌}
use mathlib.Core.Bool.{Bool, true, false}
use mathlib.Core.List.{List, ◌++◌, append_assoc}
use lib.ListN.{length, take, drop, set}
use lib.Seq.{sets, sets-eq}
use borrow.Author.Tests.{eq-eqb, ne_eqb}
use borrow.Rule.Slice.PartMut.{put_mid, Post-is}
use lib.IntN.{ℤ}
use Rattle.window.specs.Window.{Places, places, window_of, size_of, record_of, moved_down, eldest_left, put, keep}
use Rattle.window.specs.Rule.{Room}

pub eldest_left_lem : (w : Places) {sizes : List ℕ} {learnt : List ℤ} → sizes ≡ moved_down 1 64 w.sizes → learnt ≡ moved_down 64 4096 w.learnt
    → places sizes learnt (window_of (w.window.clauses - 1) (w.window.literals - size_of w.sizes 0)) ≡ eldest_left w
unfolding eldest_left
eldest_left_lem w a b = λ i. places (a i) (b i) (window_of (w.window.clauses - 1) (w.window.literals - size_of w.sizes 0))

-- a record put into a window is its clause put there
abbrev pub put_record : List ℤ → ℕ → Places → Places
put_record row size w = places (set w.sizes w.window.clauses size) (sets w.learnt (64 * w.window.clauses) row) (window_of (w.window.clauses + 1) (w.window.literals + size))

put_is : (C row : List ℤ) (size : ℕ) (w : Places) → row ≡ record_of C → size ≡ length C → put_record row size w ≡ put C w
unfolding put
put_is C row size w r s = λ i. put_record (r i) (s i) w

module _ (C row : List ℤ) (size : ℕ) (w : Places) (r : row ≡ record_of C) (s : size ≡ length C) where
  pub keep_full : w.window.clauses ≡ 64 → put_record row size (eldest_left w) ≡ keep C w
  unfolding keep
  keep_full e = put_is C row size (eldest_left w) r s ∙ ap (λ (b : Bool). elim b as (λ x. Places) [ true ↦ put C (eldest_left w) | false ↦ put C w ]) (sym (eq-eqb w.window.clauses 64 e))

  pub keep_room : (w.window.clauses ≡ 64 → ⊥) → put_record row size w ≡ keep C w
  unfolding keep
  keep_room n = put_is C row size w r s ∙ ap (λ (b : Bool). elim b as (λ x. Places) [ true ↦ put C (eldest_left w) | false ↦ put C w ]) (sym (ne_eqb w.window.clauses 64 n))

-- the row of a clause copied into its places
pub put_back : (w : Places) (row : List ℤ) (size : ℕ) (copied : List ℤ) → Room w → length row ≡ 64 → copied ≡ row
    → places (set w.sizes w.window.clauses size) (put_mid (64 * w.window.clauses) (64 * w.window.clauses + 64 - 64 * w.window.clauses) w.learnt copied) (window_of (w.window.clauses + 1) (w.window.literals + size)) ≡ put_record row size w
put_back w row size copied R n whole = λ i. places (set w.sizes w.window.clauses size) (laid i) (window_of (w.window.clauses + 1) (w.window.literals + size))
  where
    start : ℕ
    start = 64 * w.window.clauses

    room : start + 64 ≤ length w.learnt
    room = omega (arith, R.some, R.long.learnt)

    laid : put_mid start (start + 64 - start) w.learnt copied ≡ sets w.learnt start row
    laid =
        (λ i. take start w.learnt ++ (whole i ++ Post-is start (start + 64) w.learnt (omega arith) i))
        ∙ sym (append_assoc (take start w.learnt) row (drop (start + 64) w.learnt))
        ∙ ap (λ (k : ℕ). take start w.learnt ++ row ++ drop (start + k) w.learnt) (sym n)
        ∙ sym (sets-eq row w.learnt start (omega (arith, room, n)))
