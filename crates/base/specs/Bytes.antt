-- The bytes of a text, for worked cases. Assumes nothing: these are definitions.
use Rattle.std.specs.Prelude.{ℕ, List, [], ◌∷◌}
use Prim.Native.String.{String, [] as nil, ◌∷◌ as cons}
use Prim.Native.Char.{code}

abbrev pub bytes : String → List ℕ
bytes nil = []
bytes (cons c s) = code c ∷ bytes s
