-- the order of places
use Rattle.std.specs.declared.cmp.Ordering.{Ordering}
use Rattle.std.specs.declared.cmp.Ordering.TheVariants.{Less, Equal, Greater}
use Rattle.std.specs.Ordering.{ordering_then}
use Rattle.lrsearches.specs.declared.places.Need.{Need}
use Rattle.lrsearches.specs.declared.places.Need.TheVariants.{Met, Look}
use Rattle.lrsearches.specs.declared.places.Place.{Place}

-- needs by production and then dot, and none first
abbrev pub need_cmp : {T : Type 0} → (T → T → Ordering) → Need T → Need T → Ordering
need_cmp cmp Met Met = Equal
need_cmp cmp Met (Look p d) = Less
need_cmp cmp (Look p d) Met = Greater
need_cmp cmp (Look p d) (Look q e) = ordering_then (cmp p.0 q.0) (cmp d.0 e.0)

-- places by state, and then by their needs
abbrev pub place_cmp :
    {T : Type 0} → (T → T → Ordering) → (Need T → Need T → Ordering) → Place T → Place T → Ordering
place_cmp cmp needs a b =
    ordering_then (cmp a.state.0 b.state.0)
    (ordering_then (needs a.first b.first) (needs a.second b.second))
