-- A clause's part as a visit leaves it. Assumes nothing: this is a definition.
use Rattle.std.specs.Prelude.{◌-◌, List, ◌++◌, length, replicate, ℤ, pos}

-- a clause's part that holds C, with 0 behind
abbrev pub holding : List ℤ → List ℤ → List ℤ
holding C part = C ++ replicate (length part - length C) (pos 0)
