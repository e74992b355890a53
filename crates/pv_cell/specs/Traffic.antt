-- What went through the rings of a box, as plain data.
use Rattle.std.specs.Prelude.{ℕ, List, map}
pub use Rattle.pv_law_passing.specs.Coming.{counted}
use Rattle.pv_law_passing.specs.Rings.{Sealed}
use Rattle.pv_law_passing.specs.Traffic.{Traffic}
use Rattle.pv_mail.specs.declared.ends.Ends.{Ends}
use Rattle.pv_mail.specs.declared.ends.Parcel.{Parcel}
use Rattle.pv_model.specs.LiveScript as model
use Rattle.pv_post.specs.Ends.{offered, plan_of, posted, taken}
use Rattle.pv_post.specs.declared.inlet.In.{In}
use Rattle.pv_post.specs.declared.outlet.Out.{Out}
use Rattle.pv_rings.specs.Rings.{Keeps}
use Rattle.pv_script.specs.LiveView.{request_of}
use Rattle.pv_script.specs.declared.live.Request.{Request}

-- a parcel, in bytes
abbrev pub sealed_of : Parcel → Sealed
sealed_of parcel = record { stamp = parcel.stamp; place = parcel.place; bytes = parcel.bytes.items }

-- the same with how often it counts
abbrev pub sealed_count : Parcel × ℕ → Sealed × ℕ
sealed_count one = (sealed_of one.0, one.1)

-- what was offered to a ring to a site, what that took, and what was taken from a ring from one
abbrev pub sealed_offered : Out Parcel → List Sealed
sealed_offered out = map sealed_of (offered out)

abbrev pub sealed_posted : Out Parcel → List (Sealed × ℕ)
sealed_posted out = map sealed_count (posted out)

abbrev pub sealed_taken : In Parcel → List (Sealed × ℕ)
sealed_taken inlet = map sealed_count (taken inlet)

-- Of all that was offered to the ring it took in, in order and each as often as the plan says, nothing that the plan loses, and of the rest what it had a place for; which
-- that is isn't said.
abbrev pub KeepsItsPlan : {M : Type 0} → Out M → Type 0
KeepsItsPlan out = Keeps (plan_of out) 1 (offered out) (posted out)

-- what was taken from a client's ring, each request as often as it counts
abbrev pub requests_taken : In Request → List model.Request
requests_taken inlet = map request_of (counted (taken inlet))

-- what went through the rings of sites
abbrev pub traffic_of : Ends → Traffic
traffic_of ends = record {
  offered = map sealed_offered ends.sites_out.items;
  posted = map sealed_posted ends.sites_out.items;
  taken = map sealed_taken ends.sites_in.items;
}

-- what was taken from each client's ring
abbrev pub requests_of : Ends → List (List model.Request)
requests_of ends = map requests_taken ends.clients_in.items
