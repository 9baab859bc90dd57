-- The two columns of a list of edges: where the edges come from, and where they go.
-- Assumes nothing: these are definitions.
use Rattle.std.specs.Prelude.{ℕ, List, map}
use Rattle.implications.specs.declared.Edge.{Edge}

abbrev pub froms_of : List Edge → List ℕ
froms_of l = map (λ (x : Edge). x.from) l

abbrev pub tos_of : List Edge → List ℕ
tos_of l = map (λ (x : Edge). x.to) l
