-- The rule of fresh stamps is decidable: what lets a definition branch on it. `does-exact` says what the bool means, so nobody has to read how it is made.
-- Assumes nothing.
use Rattle.std.specs.Prelude.{ℕ, ◌*◌, List, get_or, ℤ, nat_abs}
use Rattle.std.proofs.Math.Decide.{ℕ_discrete, dec_le, dec_lt}
use Rattle.base.specs.Decide.{and?, or?, if?, not?, so?, every?}
use Rattle.literal.specs.Literals.{Literal, slot_of}
use Rattle.stamps.specs.Fresh.{discovery_in, finish_in, parent_in, start_in, Holds, Times, NestedOrApart, Narrowest, Parent, Start, FreshStamps}

unfoldable pub literal? : (v : ℕ) (l : ℤ) → Dec (Literal v l)
literal? v l = so? (λ h. record { above = h.0; within = h.1 }) (λ (L : Literal v l). (L.above, L.within)) (and? (dec_lt 0 (nat_abs l)) (dec_le (nat_abs l) v))

unfoldable pub holds? : (times : List ℕ) (p q : ℕ) → Dec (Holds times p q)
holds? times p q = and? (dec_le (discovery_in times p) (discovery_in times q)) (dec_le (finish_in times q) (finish_in times p))

unfoldable pub times? : (n : ℕ) (times : List ℕ) → Dec (Times n times)
times? n times =
    so? (λ h. record { ranged = h.0; once = h.1 }) (λ (T : Times n times). (T.ranged, T.once))
    (and?
    (every? n (λ k. and? (dec_lt 0 (get_or times k 0)) (dec_le (get_or times k 0) n)))
    (every? n (λ j. every? n (λ k. if? (ℕ_discrete (get_or times j 0) (get_or times k 0)) (ℕ_discrete j k)))))

unfoldable pub parent? : (size : ℕ) (times : List ℕ) (q p : ℕ) → Dec (Parent size times q p)
parent? size times q p =
    or?
    (and? (ℕ_discrete p q) (every? size (λ u. if? (holds? times u q) (ℕ_discrete u q))))
    (so? (λ h. (h.0, h.1.0, h.1.1)) (λ (N : Narrowest size times q p). (N.0, (N.1, N.2)))
    (and? (not? (ℕ_discrete p q)) (and? (holds? times p q) (every? size (λ u. if? (not? (ℕ_discrete u q)) (if? (holds? times u q) (holds? times u p)))))))

unfoldable pub start? : (size : ℕ) (times : List ℕ) (q r : ℕ) → Dec (Start size times q r)
start? size times q r = and? (holds? times r q) (every? size (λ u. if? (holds? times u q) (holds? times r u)))

unfoldable pub nested? : (times : List ℕ) (p q : ℕ) → Dec (NestedOrApart times p q)
nested? times p q = or? (or? (holds? times p q) (holds? times q p)) (or? (dec_lt (finish_in times p) (discovery_in times q)) (dec_lt (finish_in times q) (discovery_in times p)))

unfoldable pub fresh? : (v : ℕ) (times : List ℕ) (links : List ℤ) → Dec (FreshStamps v times links)
fresh? v times links =
    so?
    (λ h. record {
      every_time = h.0;
      forward = h.1.0;
      nested = h.1.1.0;
      parent_literal = h.1.1.1.0;
      parent = h.1.1.1.1.0;
      start_literal = h.1.1.1.1.1.0;
      start = h.1.1.1.1.1.1;
    })
    (λ (F : FreshStamps v times links). (F.every_time, (F.forward, (F.nested, (F.parent_literal, (F.parent, (F.start_literal, F.start)))))))
    (and? (times? (4 * v) times)
    (and? (every? (2 * v) (λ s. dec_lt (discovery_in times s) (finish_in times s)))
    (and? (every? (2 * v) (λ p. every? (2 * v) (λ q. nested? times p q)))
    (and? (every? (2 * v) (λ q. literal? v (parent_in links q)))
    (and? (every? (2 * v) (λ q. parent? (2 * v) times q (slot_of (parent_in links q))))
    (and? (every? (2 * v) (λ q. literal? v (start_in links q)))
    (every? (2 * v) (λ q. start? (2 * v) times q (slot_of (start_in links q)))))))))
    )
