-- What the site does keeps what the fields of a site in bytes say.
use Rattle.std.proofs.Common.{◌≡◌, ℕ, Bool, List, Result, Ok, Err, sym, subst, arith}
use Rattle.pv_protocol.specs.State as model
use Rattle.pv_embed.specs.Hosted.{AsksForGroup, HostedState, HasStepped, Stays, Gives, Writes, stored_length}
use Rattle.pv_embed.specs.Requests.{SubmitsBy, ReceivesBy}
use Rattle.pv_embed.specs.declared.fault.ReceiveFault.{ReceiveFault}
use Rattle.pv_embed.specs.declared.fault.ReceiveFault.TheVariants as receiving
use Rattle.pv_embed.specs.declared.fault.SubmitFault.{SubmitFault}
use Rattle.pv_embed.specs.declared.fault.SubmitFault.TheVariants as submitting
use Rattle.pv_handle.proofs.ByteLemmas.{asks-front, front, stepped-front, stays-front, writes-front, stepped-givable, same-givable}
use Rattle.pv_handle.proofs.StoredLemmas.{stepped-stored, stays-stored, writes-stored, waits-on}
use Rattle.pv_handle.specs.ByteView.{IsByteSite}
use Rattle.pv_handle.specs.declared.bytes.ByteSite.TheInside.{Inside}

module _ (inside : Inside) (new : HostedState) (was : IsByteSite inside) where
  abbrev Is : Type 0
  Is = IsByteSite (record inside { site = new })

  pub stepped-keeps : (input : model.Input) → HasStepped inside.site new input → Is
  stepped-keeps input stepped =
      let stored = stepped-stored inside.site new input stepped in
      record {
        stored = waits-on inside.waiting (stored_length inside.site) (stored_length new) (omega (arith, stored)) was.stored;
        given =
            stepped-givable (front inside.waiting inside.site) (front inside.waiting new) input (stepped-front inside.waiting inside.site new input stepped) was.given;
      }

  pub stays-keeps : Stays inside.site new → Is
  stays-keeps stays =
      let stored = stays-stored inside.site new stays in
      let front_stays = stays-front inside.waiting inside.site new stays in
      record {
        stored = waits-on inside.waiting (stored_length inside.site) (stored_length new) (omega (arith, stored)) was.stored;
        given = same-givable (front inside.waiting inside.site) (front inside.waiting new) new.site.log front_stays.1 was.given;
      }

  pub writes-keeps : Writes inside.site new → Is
  writes-keeps writes =
      let front_writes = writes-front inside.waiting inside.site new writes in
      record {
        stored = waits-on inside.waiting (stored_length inside.site) (stored_length new) (writes-stored inside.site new writes) was.stored;
        given = same-givable (front inside.waiting inside.site) (front inside.waiting new) new.site.log front_writes.same was.given;
      }

  pub asks-keeps : (room : ℕ) → AsksForGroup room inside.site new → stored_length new ≡ stored_length inside.site → Is
  asks-keeps room asks stored =
      let front_asks = asks-front inside.waiting inside.site new room asks in
      record {
        stored = waits-on inside.waiting (stored_length inside.site) (stored_length new) (omega (arith, stored)) was.stored;
        given = same-givable (front inside.waiting inside.site) (front inside.waiting new) new.site.log front_asks.same was.given;
      }

  pub same-keeps : new ≡ inside.site → Is
  same-keeps is = subst (λ (site : HostedState). IsByteSite (record inside { site = site })) (sym is) was

  pub gives-keeps : {X E : Type 0} (input : model.Input) (result : Result X E) → Gives inside.site new input result → Is
  gives-keeps input (Ok x) stepped = stepped-keeps input stepped
  gives-keeps input (Err error) stays = stays-keeps stays

  pub submits-keeps : {X : Type 0} (text : List ℕ) (query : Bool) (result : Result X SubmitFault) → SubmitsBy inside.site new text query result → Is
  submits-keeps text query (Ok x) submits = stepped-keeps (model.submit submits.0) submits.3
  submits-keeps text query (Err (submitting.Text error)) refused = same-keeps refused.0
  submits-keeps text query (Err (submitting.Program error)) refused = same-keeps refused.0
  submits-keeps text query (Err submitting.NoMemory) stays = stays-keeps stays

  pub receives-keeps : {X : Type 0} (bytes : List ℕ) (result : Result X ReceiveFault) → ReceivesBy inside.site new bytes result → Is
  receives-keeps bytes (Ok x) receives = stepped-keeps (model.receive receives.0.from receives.0.message) receives.4
  receives-keeps bytes (Err (receiving.Malformed error)) refused = same-keeps refused.0
  receives-keeps bytes (Err receiving.NotForHere) refused = same-keeps refused.0
  receives-keeps bytes (Err receiving.NoSender) refused = same-keeps refused.0
  receives-keeps bytes (Err receiving.NoMemory) stays = stays-keeps stays
