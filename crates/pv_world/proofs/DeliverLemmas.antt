-- What comes of delivering a message.
use Rattle.std.proofs.Common.{◌≡◌, ℕ, ◌<◌, List, [], ◌∷◌, Option, Some, None, refl, sym, ap, subst, ◌∙◌}
use Rattle.std.specs.Prelude.{Result, Ok, Err, slice_get}
use Rattle.std.specs.Option.{option_map}
use Rattle.std.specs.Borrow.{Bor}
use Rattle.pv_base.specs.Catalog.{Declared}
use Rattle.pv_format.specs.Message.{Envelope}
use Rattle.pv_format.specs.MessageSpelling.{SpellsEnvelope}
use Rattle.pv_format.specs.Range.{IsEnvelopeWithin}
use Rattle.pv_law_events.specs.Replays.{AreReplayable}
use Rattle.pv_law_step.proofs.Lists.{slice-of, of-some}
use Rattle.pv_protocol.specs.Attempt.{delivered, given}
use Rattle.pv_protocol.specs.Limit.{over_limit}
use Rattle.pv_protocol.specs.Lines as protocol
use Rattle.pv_protocol.specs.State.{Setup, receive}
use Rattle.pv_protocol.specs.World as model
use Rattle.pv_protocol.specs.World.{site_at, with_done}
use Rattle.pv_base.proofs.Basics.{Some_inj}
use Rattle.pv_protocol.specs.WorldStep.{ended}
use Rattle.pv_script.specs.declared.line.Line.{Line}
use Rattle.pv_world.proofs.MailWorld.{carried-at, none-carried}
use Rattle.pv_world.specs.Carry.{Carry}
use Rattle.pv_world.specs.Mail.{Posted}
use Rattle.pv_site.specs.SiteState.{setup_of}
use Rattle.pv_site.specs.declared.input.Given.TheVariants.{Take}
use Rattle.pv_wire.specs.Values.{envelope_of, message_of}
use Rattle.pv_wire.specs.declared.message.Envelope as wire
use Rattle.pv_wire.specs.declared.message.Message.{Message}
use Rattle.pv_world.specs.Reached.{IsLawful}
use Rattle.pv_world.specs.Stands.{Stands, StandsFor}
use Rattle.pv_world.specs.Steps.{Becomes, CanGive, Comes, IsSameBeside}
use Rattle.pv_world.specs.Taken.{IsOrderly}
use Rattle.pv_world.specs.declared.error.WorldError.{WorldError}
use Rattle.pv_world.specs.declared.error.WorldError.TheVariants.{SentLimit, NoMemory}
use Rattle.pv_world.specs.declared.world.World.{World}

-- What the world becomes from another that has the same declarations and the same limit.
pub becomes-from : {X : Type 0} (old mid new : World) (before after : List Line) (is : model.World) (lines : List protocol.Line) (result : Result X WorldError) → IsSameBeside old mid
    → Becomes mid new before after is lines result → Becomes old new before after is lines result
becomes-from old mid new before after is lines (Ok x) same becomes =
    (becomes.0, record { catalog = becomes.1.catalog ∙ same.catalog; limit = becomes.1.limit ∙ same.limit }, becomes.2)
becomes-from old mid new before after is lines (Err (SentLimit total)) same becomes =
    subst (λ (limit : ℕ). over_limit limit is ≡ Some total) same.limit becomes
becomes-from old mid new before after is lines (Err NoMemory) same becomes = tt

-- In a lawful world what is in memory is in order.
pub orderly : (world : World) (is : model.World) → StandsFor world is → IsLawful (setup_of world.catalog) is → IsOrderly (setup_of world.catalog) is
orderly world is stands lawful = record { homes = stands.range.homes; memories = lawful.memories; taken = lawful.taken }

module _ (old done : World) (is : model.World) (n : ℕ) (lawful : IsLawful (setup_of old.catalog) is) (same : IsSameBeside old done) (stands : Stands done (with_done is n))
    (envelope : wire.Envelope) (bytes : List ℕ) (there : slice_get is.sent n ≡ Some (envelope_of envelope)) (spells : SpellsEnvelope (envelope_of envelope) bytes) where
  within : IsEnvelopeWithin old.catalog.sites (envelope_of envelope)
  within =
      of-some (IsEnvelopeWithin old.catalog.sites) (slice_get is.sent n) (envelope_of envelope)
      (slice-of (IsEnvelopeWithin old.catalog.sites) is.sent n lawful.range.sent) there

  -- The receiver can take it.
  pub can-take : AreReplayable (setup_of old.catalog) (ended (delivered (setup_of old.catalog) is n (slice_get is.sent n))).1
      → (message : Bor Message) → message.now ≡ envelope.message → CanGive done envelope.to.0 (Take envelope.from message)
  can-take after message same-message = record {
    is = with_done is n;
    stands = stands;
    site = subst (λ (c : Declared). envelope.to.0 < c.sites) (sym same.catalog) within.to;
    fits = (
      subst (λ (c : Declared). envelope.from.0 < c.sites) (sym same.catalog) within.from,
      (bytes, subst (λ (m : Message). SpellsEnvelope (record { from = envelope.from.0; to = envelope.to.0; message = message_of m }) bytes) (sym same-message) spells),
    );
    replayable = subst (λ (c : Declared). AreReplayable (setup_of c) (with_done is n)) (sym same.catalog) lawful.replayable;
    after =
        subst (λ (c : Declared).
        AreReplayable (setup_of c) (ended (given (setup_of c) (with_done is n) envelope.to.0 (receive envelope.from.0 (message_of message.now)) (site_at is envelope.to.0).running)).1)
        (sym same.catalog)
        (subst (λ (m : Message).
        AreReplayable (setup_of old.catalog)
        (ended (given (setup_of old.catalog) (with_done is n) envelope.to.0 (receive envelope.from.0 (message_of m)) (site_at is envelope.to.0).running)).1)
        (sym same-message)
        (subst (λ (found : Option Envelope). AreReplayable (setup_of old.catalog) (ended (delivered (setup_of old.catalog) is n found)).1) there after));
  }

  -- What the receiver makes of it is what the delivery comes to.
  pub delivered-comes : {X : Type 0} (new : World) (before after : List Line) (result : Result X WorldError)
      → Comes done new before after
      (given (setup_of done.catalog) (with_done is n) envelope.to.0 (receive envelope.from.0 (message_of envelope.message)) (site_at (with_done is n) envelope.to.0).running) result
      → Comes old new before after (delivered (setup_of old.catalog) is n (slice_get is.sent n)) result
  delivered-comes new before after result comes =
      subst (λ (found : Option Envelope). Comes old new before after (delivered (setup_of old.catalog) is n found) result) (sym there)
      (becomes-from old done new before after _ _ result same
      (subst (λ (c : Declared). Comes done new before after
      (given (setup_of c) (with_done is n) envelope.to.0 (receive envelope.from.0 (message_of envelope.message)) (site_at is envelope.to.0).running) result) same.catalog comes))

-- The message of a number, by its bytes.
pub record Found (sent : List Envelope) (n : ℕ) (bytes : List ℕ) : Type 0 where
  pub envelope : Envelope
  pub there : slice_get sent n ≡ Some envelope
  pub spells : SpellsEnvelope envelope bytes

found-by : (posts : List Posted) (sent : List Envelope) (n : ℕ) (bytes : List ℕ) → Carry posts sent → (o : Option Posted) → slice_get posts n ≡ o
    → Some bytes ≡ option_map (λ (post : Posted). post.bytes) o → Found sent n bytes
found-by posts sent n bytes carry None is same = absurd (let wrong : ⊥ = cc in wrong)
found-by posts sent n bytes carry (Some post) is same =
    let carried = carried-at posts sent n post carry is in
    record { envelope = carried.envelope; there = carried.there; spells = subst (SpellsEnvelope carried.envelope) (sym (Some_inj same)) carried.spells }

pub found : (posts : List Posted) (sent : List Envelope) (n : ℕ) (bytes : List ℕ) → Carry posts sent
    → Some bytes ≡ option_map (λ (post : Posted). post.bytes) (slice_get posts n) → Found sent n bytes
found posts sent n bytes carry same = found-by posts sent n bytes carry (slice_get posts n) refl same

none-by : (o : Option Posted) → None ≡ option_map (λ (post : Posted). post.bytes) o → o ≡ None
none-by None same = refl
none-by (Some post) same = absurd (let wrong : ⊥ = cc in wrong)

pub none-found : (posts : List Posted) (sent : List Envelope) (n : ℕ) → Carry posts sent → None ≡ option_map (λ (post : Posted). post.bytes) (slice_get posts n)
    → slice_get sent n ≡ None
none-found posts sent n carry same = none-carried posts sent n carry (none-by (slice_get posts n) same)

pub delivered-none : (setup : Setup) (is : model.World) (n : ℕ) → slice_get is.sent n ≡ None
    → ended (delivered setup is n (slice_get is.sent n)) ≡ (protocol.Line.no_message n ∷ [], is)
delivered-none setup is n none = ap (λ (o : Option Envelope). ended (delivered setup is n o)) none

pub orderly-done : (setup : Setup) (is : model.World) (n : ℕ) → IsOrderly setup is → IsOrderly setup (with_done is n)
orderly-done setup is n orderly = record { homes = orderly.homes; memories = orderly.memories; taken = orderly.taken }
