-- Which items are written.
use Rattle.std.specs.Prelude.{Bool, List, map, nat_eq}
use Rattle.std.specs.Cmp.Lexicographic.{pointwise}
use Rattle.pv_base.specs.Want.{Want}
use Rattle.pv_model.specs.Alternatives.{Read}
use Rattle.pv_protocol.specs.Coordinate.{exclusive_items}

-- The writes are of the exclusive items of these wants.
abbrev pub are_items_of : List Want → List Read → Bool
are_items_of wants writes = pointwise nat_eq (map (λ write. write.item) writes) (exclusive_items wants)
