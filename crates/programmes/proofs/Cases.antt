-- The named programmes, judged by computation. Assumes nothing.
use Prim.Native.Nat.{ℕ}
use native.Mathlib.Decide.{ℕ_discrete, dec_le}
use mathlib.Core.Path.{◌≡◌, refl}
use mathlib.Core.List.{List, [], ◌∷◌, ◌++◌}
use lib.ListN.{replicate}
use Rattle.std.specs.Prelude.{Result, Ok, Err}
use Rattle.base.specs.Decide.{and?, or?, if?, not?, so?}
use Rattle.base.specs.Lists.{first}
use Rattle.programmes.specs.Judging.{settled?, stamped?, fits?, offending_place, first_offending, judge}

-- a list of codes and what is said of it
pub record Case : Type 0 where
  pub codes : List ℕ
  pub said : Result (Unit {0}) ℕ

abbrev case : List ℕ → Result (Unit {0}) ℕ → Case
case codes said = record { codes = codes; said = said }

abbrev faileds : ℕ → List ℕ
faileds n = 1 ∷ 2 ∷ replicate n 3

pub cases : List Case
cases =
    -- the constant one; a settle alone; two stampings in a round; failed after failed
    case (1 ∷ 2 ∷ 3 ∷ 4 ∷ []) (Ok tt) ∷ case (1 ∷ []) (Ok tt) ∷ case (1 ∷ 2 ∷ 4 ∷ 1 ∷ 2 ∷ 3 ∷ 4 ∷ []) (Ok tt) ∷ case (1 ∷ 1 ∷ 2 ∷ 3 ∷ 3 ∷ 4 ∷ []) (Ok tt)
    -- a stamp that follows a failed, a stamp, nothing, a sweep
    ∷ case (1 ∷ 2 ∷ 3 ∷ 2 ∷ []) (Err 3) ∷ case (1 ∷ 2 ∷ 2 ∷ []) (Err 2) ∷ case (2 ∷ []) (Err 0) ∷ case (1 ∷ 2 ∷ 4 ∷ 2 ∷ []) (Err 3)
    -- a sweep and a failed after a sweep; both after a settle; both first
    ∷ case (1 ∷ 2 ∷ 4 ∷ 4 ∷ []) (Err 3) ∷ case (1 ∷ 2 ∷ 4 ∷ 3 ∷ []) (Err 3) ∷ case (1 ∷ 2 ∷ 1 ∷ 4 ∷ []) (Err 3) ∷ case (1 ∷ 2 ∷ 1 ∷ 3 ∷ []) (Err 3) ∷ case (4 ∷ 1 ∷ []) (Err 0) ∷ case (3 ∷ 1 ∷ []) (Err 0)
    -- codes 0 and 5; the first of two that offend
    ∷ case (0 ∷ []) (Err 0) ∷ case (1 ∷ 2 ∷ 0 ∷ 4 ∷ []) (Err 2) ∷ case (1 ∷ 5 ∷ []) (Err 1) ∷ case (1 ∷ 2 ∷ 3 ∷ 4 ∷ 3 ∷ 9 ∷ []) (Err 4)
    -- none, 32 and 33 codes; the length is judged before the codes
    ∷ case [] (Err 0) ∷ case (faileds 30) (Ok tt) ∷ case (faileds 31) (Err 0) ∷ case (faileds 31 ++ 5 ∷ []) (Err 0) ∷ []

abbrev Hold : List Case → Type 0
Hold [] = Unit {0}
Hold (c ∷ cs) = (judge c.codes ≡ c.said) × Hold cs

pub hold : Hold cases
unfolding cases judge first_offending offending_place first fits? stamped? settled? and? or? if? not? so? ℕ_discrete dec_le
hold = (refl, (refl, (refl, (refl, (refl, (refl, (refl, (refl, (refl, (refl, (refl, (refl, (refl, (refl, (refl, (refl, (refl, (refl, (refl, (refl, (refl, (refl, tt))))))))))))))))))))))
