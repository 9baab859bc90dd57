-- Document 01: "A literal is a signed 32-bit number, not 0: v for a variable, −v for its complement. Variables are 1 to V .. literals v, −v have records .. 2v − 2 and 2v − 1."
-- A literal l is an integer; its sign is `non_neg l`, its variable `nat_abs l`, its complement `neg_ℤ l`. Every function of a literal is written by sign and variable.
-- The record number of a literal is called its slot; the slot of the complement is its twin. Assumes nothing: these are definitions.
use Rattle.std.specs.Prelude.{ℕ, ◌+◌, ◌*◌, ◌-◌, ◌/◌, ◌%◌, ◌<◌, ◌≤◌, Bool, true, false, ◌&&◌, List, length, get_or, leb, ltb, eqb, ℤ, pos, negsuc, neg_ℤ, nat_abs}
use Rattle.std.specs.Int.Signed.{non_neg}

-- an i32 that is not the smallest, so that its complement is an i32 too
pub record Small (l : ℤ) : Type 0 where
  pub small : nat_abs l < 2147483648

-- no literal of a list is the smallest i32, so that each has a complement
pub record EachSmall (C : List ℤ) : Type 0 where
  pub each : (k : ℕ) → k < length C → Small (get_or C k (pos 0))

-- a literal of the variables 1 to v
pub record Literal (v : ℕ) (l : ℤ) : Type 0 where
  pub above : 0 < nat_abs l
  pub within : nat_abs l ≤ v

-- |l| is 1 to v, and l is not the smallest i32
abbrev pub in_range : ℤ → ℕ → Bool
in_range l v = ltb 0 (nat_abs l) && (ltb (nat_abs l) 2147483648 && leb (nat_abs l) v)

-- ---- slots

abbrev pub slot_by : Bool → ℕ → ℕ
slot_by true v = 2 * v - 2
slot_by false v = 2 * v - 1

-- 2v - 2 for v, 2v - 1 for -v
abbrev pub slot_of : ℤ → ℕ
slot_of l = slot_by (non_neg l) (nat_abs l)

abbrev pub lit_by : Bool → ℕ → ℤ
lit_by true v = pos v
lit_by false v = neg_ℤ (pos v)

-- the literal whose slot is s
abbrev pub lit_at : ℕ → ℤ
lit_at s = lit_by (eqb (s % 2) 0) (s / 2 + 1)

abbrev pub twin_by : Bool → ℕ → ℕ
twin_by true s = s + 1
twin_by false s = s - 1

-- the slot of the complement: the next of an even slot, the one before an odd one
unfoldable pub twin : ℕ → ℕ
twin s = twin_by (eqb (s % 2) 0) s

-- ---- signs

-- the same integer
abbrev pub eq_z : ℤ → ℤ → Bool
eq_z (pos a) (pos b) = eqb a b
eq_z (pos a) (negsuc b) = false
eq_z (negsuc a) (pos b) = false
eq_z (negsuc a) (negsuc b) = eqb a b

-- the sign of a literal carried to a number that is kept for its variable: a class literal or a value
abbrev pub sign_by : Bool → ℤ → ℤ
sign_by true x = x
sign_by false x = neg_ℤ x

-- a value: -1, 0 or 1
pub record Tri (z : ℤ) : Type 0 where
  pub tri : nat_abs z ≤ 1
