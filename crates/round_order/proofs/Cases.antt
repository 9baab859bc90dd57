-- Examples by computation: the order of a round. The worked cases of document 01 run whole rounds. Assumes nothing.
use mathlib.Core.Path.{◌≡◌, refl}
use mathlib.Core.List.{[], ◌∷◌}
use lib.IntN.{pos, negsuc}
use Rattle.base.specs.Lists.{numbers, turned}
use Rattle.round_order.specs.Order.{order_of}

orders : (order_of 2 0 ≡ pos 1 ∷ negsuc 0 ∷ pos 2 ∷ negsuc 1 ∷ []) × (order_of 2 5 ≡ negsuc 0 ∷ pos 2 ∷ negsuc 1 ∷ pos 1 ∷ []) × (order_of 0 3 ≡ [])
unfolding numbers turned order_of
orders = (refl, refl, refl)
