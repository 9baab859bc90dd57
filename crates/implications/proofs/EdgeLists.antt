-- The columns of a list of edges: how long they are, and what stands at a place.
-- Assumes nothing.
use Rattle.std.proofs.Common.{◌≡◌, ℕ, ◌<◌, List, length, get_or, take, sym, arith}
use Rattle.std.proofs.Math.ListN.{get_or-map, set}
use Rattle.std.proofs.lemmas.List.{length-map, map-set, take-map}
use Rattle.implications.specs.declared.Edge.{Edge}
use Rattle.implications.specs.EdgeList.{froms_of, tos_of}

pub many_froms : (es : List Edge) → length (froms_of es) ≡ length es
many_froms es = length-map es (λ (x : Edge). x.from)

pub many_tos : (es : List Edge) → length (tos_of es) ≡ length es
many_tos es = length-map es (λ (x : Edge). x.to)

pub from_at : (es : List Edge) (i : ℕ) → get_or (froms_of es) i 0 ≡ (get_or es i (record { from = 0; to = 0 })).from
from_at es i = get_or-map (λ (x : Edge). x.from) es i (record { from = 0; to = 0 })

pub to_at : (es : List Edge) (i : ℕ) → get_or (tos_of es) i 0 ≡ (get_or es i (record { from = 0; to = 0 })).to
to_at es i = get_or-map (λ (x : Edge). x.to) es i (record { from = 0; to = 0 })

-- what holds of each entry of a column holds of an edge's end
pub from_below : (es : List Edge) (n i : ℕ) → ((k : ℕ) → k < length (froms_of es) → get_or (froms_of es) k 0 < n) → i < length es → (get_or es i (record { from = 0; to = 0 })).from < n
from_below es n i below lt = omega (arith, below i (omega (arith, many_froms es)), from_at es i)

pub to_below : (es : List Edge) (n i : ℕ) → ((k : ℕ) → k < length (tos_of es) → get_or (tos_of es) k 0 < n) → i < length es → (get_or es i (record { from = 0; to = 0 })).to < n
to_below es n i below lt = omega (arith, below i (omega (arith, many_tos es)), to_at es i)

-- ---- an edge is stored, and the first edges

pub froms_set : (es : List Edge) (i : ℕ) (e : Edge) → froms_of (set es i e) ≡ set (froms_of es) i e.from
froms_set es i e = map-set (λ (x : Edge). x.from) es i e

pub tos_set : (es : List Edge) (i : ℕ) (e : Edge) → tos_of (set es i e) ≡ set (tos_of es) i e.to
tos_set es i e = map-set (λ (x : Edge). x.to) es i e

pub froms_take : (k : ℕ) (es : List Edge) → froms_of (take k es) ≡ take k (froms_of es)
froms_take k es = sym (take-map (λ (x : Edge). x.from) k es)

pub tos_take : (k : ℕ) (es : List Edge) → tos_of (take k es) ≡ take k (tos_of es)
tos_take k es = sym (take-map (λ (x : Edge). x.to) k es)
