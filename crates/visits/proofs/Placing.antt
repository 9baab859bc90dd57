-- A clause's part put back into the literal table: another list of the same length, what a visit leaves in it, or the part as it was. Assumes nothing.
use Prim.Native.Nat.{ℕ, ◌+◌, ◌*◌, ◌-◌, ◌≤◌}
use native.Mathlib.Omega.{arith}
use mathlib.Core.Path.{◌≡◌, sym, ap, ◌∙◌}
use mathlib.Core.List.{List, ◌++◌, append_assoc, append-nil}
use lib.ListN.{length, take, drop, set, replicate, length-drop, take-append-drop}
use lib.Seq.{length-take-le, take-add, set-get_or}
use lib.IntN.{ℤ, pos}
use Rattle.tables.specs.Tables.{Tables, tables, start_of, length_of}
use Rattle.tables.specs.Clauses.{literals_of}
use Rattle.tables.specs.Fates.{put_part, shortened}
use Rattle.literal.specs.Holding.{holding}

-- the literal table with another part of the same length
abbrev pub replaced : ℕ → ℕ → List ℤ → List ℤ → List ℤ
replaced s n q l = take s l ++ (q ++ drop (s + n) l)

module _ (k : ℕ) (c : List ℕ) (l : List ℤ) (inside : start_of c k + length_of c k ≤ length l) where
  pub view_length : length (literals_of c l k) ≡ length_of c k
  view_length = length-take-le (length_of c k) (drop (start_of c k) l) (omega (arith, inside, length-drop (start_of c k) l))

  pub put_holding : (C : List ℤ) → replaced (start_of c k) (length_of c k) (holding C (literals_of c l k)) l ≡ put_part (start_of c k) (length_of c k) C l
  put_holding C = ap (λ (m : ℕ). take (start_of c k) l ++ ((C ++ replicate (m - length C) (pos 0)) ++ drop (start_of c k + length_of c k) l)) view_length

  pub put_same : replaced (start_of c k) (length_of c k) (literals_of c l k) l ≡ l
  put_same =
      sym (append_assoc (take (start_of c k) l) (literals_of c l k) (drop (start_of c k + length_of c k) l))
      ∙ ap (λ (x : List ℤ). x ++ drop (start_of c k + length_of c k) l) (sym (take-add (start_of c k) (length_of c k) l))
      ∙ take-append-drop (start_of c k + length_of c k) l

  -- all its literals left, with no 0 behind
  part_same : put_part (start_of c k) (length_of c k) (literals_of c l k) l ≡ l
  part_same =
      ap (λ (m : ℕ). replaced (start_of c k) (length_of c k) (literals_of c l k ++ replicate m (pos 0)) l) (let e : length_of c k - length (literals_of c l k) ≡ 0 = omega (arith, view_length) in e)
      ∙ ap (λ (D : List ℤ). replaced (start_of c k) (length_of c k) D l) (append-nil (literals_of c l k))
      ∙ put_same

  record_same : set c (3 * k + 1) (length (literals_of c l k)) ≡ c
  record_same = ap (set c (3 * k + 1)) view_length ∙ set-get_or c (3 * k + 1) 0

-- a clause that keeps all its literals leaves the tables as they were
pub shortened_same : (t : Tables) (k : ℕ) → start_of t.clauses k + length_of t.clauses k ≤ length t.literals → shortened k (literals_of t.clauses t.literals k) t ≡ t
unfolding shortened
shortened_same t k inside = λ i. tables (record_same k t.clauses t.literals inside i) (part_same k t.clauses t.literals inside i) t.variables t.times t.links
