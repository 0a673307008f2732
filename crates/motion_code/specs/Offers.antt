-- An order as the code hands it on: with its reach, which is worked out anyway where the order is.
use Rattle.brake.specs.declared.Figures.{Figures}
use Rattle.motion.specs.declared.Motion.{Motion}
use Rattle.motion.specs.declared.Order.{Order}
use Rattle.motion.specs.Orders.{reach}
use Rattle.motion_code.specs.declared.Offer.{Offer}

-- ---- words of inner contracts

-- an order and its reach
abbrev pub offer : Figures → Motion → Order → Offer
offer k m o = record { order = o; reach = reach k m o }
