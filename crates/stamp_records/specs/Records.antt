-- Document 01: "The result is one record per literal: discovery, finish, parent, start." The caller lends a slice of such records; the passes work on two columns, discovery and finish of record i at 2i and 2i + 1 of the times,
-- parent and start at the same places of the links. Only the first 2,048 records count, and where fewer are lent the columns are shorter. Assumes nothing: these are definitions.
use Rattle.std.specs.Prelude.{ℕ, ◌+◌, ◌*◌, List, [], ◌∷◌, ℤ, pos, get_or, set, take}
use Rattle.stamp_records.specs.declared.Columns.{Columns}
use Rattle.stamp_records.specs.declared.StampRecord.{StampRecord}

-- what a place past the end of a list of records is read as
abbrev pub no_stamp : StampRecord
no_stamp = record { discovery = 0; finish = 0; parent = pos 0; start = pos 0 }

abbrev pub stamp_record : ℕ → ℕ → ℤ → ℤ → StampRecord
stamp_record d f p s = record { discovery = d; finish = f; parent = p; start = s }

-- two numbers of every record, in order
unfoldable pub pairs_in : {X : Type 0} → (StampRecord → X) → (StampRecord → X) → List StampRecord → List X
pairs_in p q [] = []
pairs_in p q (r ∷ rs) = p r ∷ q r ∷ pairs_in p q rs

abbrev pub times_in : List StampRecord → List ℕ
times_in rs = pairs_in (λ (r : StampRecord). r.discovery) (λ (r : StampRecord). r.finish) rs

abbrev pub links_in : List StampRecord → List ℤ
links_in rs = pairs_in (λ (r : StampRecord). r.parent) (λ (r : StampRecord). r.start) rs

-- the columns of a lent slice
abbrev pub times_of : List StampRecord → List ℕ
times_of rs = times_in (take 2048 rs)

abbrev pub links_of : List StampRecord → List ℤ
links_of rs = links_in (take 2048 rs)

-- the records that two columns hold
unfoldable pub records_in : List ℕ → List ℤ → List StampRecord
records_in (d ∷ f ∷ ts) (p ∷ s ∷ ls) = stamp_record d f p s ∷ records_in ts ls
records_in [] ls = []
records_in (d ∷ []) ls = []
records_in (d ∷ f ∷ ts) [] = []
records_in (d ∷ f ∷ ts) (p ∷ []) = []

-- the first of two lists in the first places of the second, which keeps its length and its later places
unfoldable pub over : {A : Type 0} → List A → List A → List A
over [] ys = ys
over (x ∷ xs) [] = []
over (x ∷ xs) (y ∷ ys) = x ∷ over xs ys

-- a lent slice with the records of two columns in its first places: "Records past 2V stay", and so do those past the 2,048th
abbrev pub packed : List ℕ → List ℤ → List StampRecord → List StampRecord
packed ts ls rs = over (records_in ts ls) rs

-- ---- the columns by value: of their places, those of `count` records hold

abbrev pub held_times : Columns → List ℕ
held_times c = take (2 * c.count) c.times

abbrev pub held_links : Columns → List ℤ
held_links c = take (2 * c.count) c.links

-- ---- one record of the columns

abbrev pub record_at : List ℕ → List ℤ → ℕ → StampRecord
record_at ts ls i = stamp_record (get_or ts (2 * i) 0) (get_or ts (2 * i + 1) 0) (get_or ls (2 * i) (pos 0)) (get_or ls (2 * i + 1) (pos 0))

abbrev pub put2 : {X : Type 0} → List X → ℕ → X → X → List X
put2 l i x y = set (set l (2 * i) x) (2 * i + 1) y

abbrev pub times_put : List ℕ → ℕ → StampRecord → List ℕ
times_put ts i r = put2 ts i r.discovery r.finish

abbrev pub links_put : List ℤ → ℕ → StampRecord → List ℤ
links_put ls i r = put2 ls i r.parent r.start
