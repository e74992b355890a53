-- What comes of losing a message, and of sending one.
use Rattle.std.proofs.Common.{◌≡◌, ℕ, ◌+◌, ◌<◌, ◌≤◌, arith, Bool, true, Option, Some, None, List, [], ◌∷◌, ◌++◌, map, take, length, length-append, append_assoc, get_or, refl, sym, ap, ap₂, subst, ◌∙◌}
use Rattle.std.proofs.lemmas.List.{map-append, replicate-append-replicate}
use Rattle.std.specs.Prelude.{Result, Ok, Err, IsErrAnd, replicate, slice_get, OnOk, IfErr}
use Rattle.std.proofs.lemmas.Option.{slice_get-get_or}
use Rattle.pv_base.proofs.Basics.{heads, tails}
use Rattle.pv_format.specs.Message.{Envelope, ask}
use Rattle.pv_format.specs.MessageSpelling.{SpellsEnvelope}
use Rattle.pv_protocol.specs.Attempt.{lost}
use Rattle.pv_protocol.specs.Lines as protocol
use Rattle.pv_protocol.specs.World as model
use Rattle.pv_protocol.specs.Limit.{over_limit}
use Rattle.pv_protocol.specs.State as state
use Rattle.pv_protocol.specs.World.{from_site, with_done, with_sent}
use Rattle.pv_site.specs.Values.{outgoing_of}
use Rattle.pv_site.specs.declared.input.Outgoing.{Outgoing}
use Rattle.pv_protocol.specs.WorldStep.{ended}
use Rattle.pv_world.proofs.MailWorld.{over_limit-stays, past-posted, within-posted}
use Rattle.pv_world.proofs.StandLemmas.{stands-posted}
use Rattle.pv_world.specs.Mail.{MailState, Posted, bytes_sent}
use Rattle.pv_world.specs.Stands.{Stands}
use Rattle.pv_world.specs.Steps.{Becomes, IsSameBeside}
use Rattle.pv_world.specs.declared.error.WorldError.{WorldError}
use Rattle.pv_world.specs.declared.error.WorldError.TheVariants.{SentLimit, NoMemory}
use Rattle.pv_world.specs.declared.world.World.{World}

abbrev no_envelope : Envelope
no_envelope = record { from = 0; to = 0; message = ask (record { site = record { 0 = 0 }; epoch = 0; number = 0 }) }

pub lost-none : (is : model.World) (n : ℕ) → slice_get is.sent n ≡ None → ended (lost is n (slice_get is.sent n)) ≡ (protocol.Line.no_message n ∷ [], is)
lost-none is n none = ap (λ (found : Option Envelope). ended (lost is n found)) none

pub lost-some : (is : model.World) (n : ℕ) → n < length is.sent → ended (lost is n (slice_get is.sent n)) ≡ ([], with_done is n)
lost-some is n within = ap (λ (found : Option Envelope). ended (lost is n found)) (slice_get-get_or is.sent n no_envelope within)

-- A message is posted, or it passes the limit.
pub sent-becomes : {X : Type 0} (old new : World) (is : model.World) (post : Posted) (envelope : Envelope) (result : Result X WorldError) → Stands old is
    → new.catalog ≡ old.catalog → new.cells ≡ old.cells → new.order ≡ old.order → post.to ≡ envelope.to → SpellsEnvelope envelope post.bytes → post.fresh ≡ true
    → OnOk result (new.mail ≡ record old.mail { posts = old.mail.posts ++ post ∷ [] }) → OnOk result (bytes_sent old.mail.posts + length post.bytes ≤ old.mail.limit)
    → ((total : ℕ) → IfErr result (λ error. error ≡ SentLimit total → (total ≡ bytes_sent old.mail.posts + length post.bytes) × (old.mail.limit < total)))
    → Becomes old new [] [] (with_sent is (envelope ∷ [])) [] result
sent-becomes old new is post envelope (Ok x) stands catalog cells order to spells fresh sent within limit = (
  stands-posted old is stands new catalog cells order post envelope sent to spells fresh
      (within-posted old.mail.limit old.mail.posts is envelope post.bytes stands.sent stands.within spells within),
  record { catalog = catalog; limit = ap (λ (m : MailState). m.limit) sent },
  refl,
)
sent-becomes old new is post envelope (Err (SentLimit total)) stands catalog cells order to spells fresh sent within limit =
    let past = limit total refl in
    past-posted old.mail.limit old.mail.posts is envelope post.bytes [] stands.sent stands.within spells (subst (λ (t : ℕ). old.mail.limit < t) past.0 past.1) ∙ ap Some (sym past.0)
sent-becomes old new is post envelope (Err NoMemory) stands catalog cells order to spells fresh sent within limit = tt

-- Messages sent one after another.
pub sent-append : (is : model.World) (front back : List Envelope) → with_sent (with_sent is front) back ≡ with_sent is (front ++ back)
sent-append is front back =
    ap₂ (λ (sent : List Envelope) (fresh : List Bool). record is { sent = sent; fresh = fresh }) (append_assoc is.sent front back)
    (append_assoc is.fresh (replicate (length front) true) (replicate (length back) true)
    ∙ ap (λ (marks : List Bool). is.fresh ++ marks)
    (replicate-append-replicate (length front) (length back) true ∙ ap (λ (count : ℕ). replicate count true) (sym (length-append front back))))

pub sent-more : (is : model.World) (n : ℕ) (front : List Outgoing) (one : Outgoing)
    → with_sent (with_sent is (from_site n (map outgoing_of front))) (from_site n (outgoing_of one ∷ [])) ≡ with_sent is (from_site n (map outgoing_of (front ++ one ∷ [])))
sent-more is n front one =
    sent-append is (from_site n (map outgoing_of front)) (from_site n (outgoing_of one ∷ []))
    ∙ ap (with_sent is) (sym (map-append (λ (o : state.Outgoing). record { from = n; to = o.to; message = o.message }) (map outgoing_of front) (outgoing_of one ∷ []))
    ∙ ap (from_site n) (sym (map-append outgoing_of front (one ∷ []))))

-- A message passes the limit, whatever is sent after it.
pub sends-over : (X : Type 0) (old mid new last : World) (is : model.World) (n : ℕ) (all front back : List Outgoing) (one : Outgoing) (error : WorldError) → IsSameBeside old mid
    → all ≡ (front ++ one ∷ []) ++ back
    → Becomes {X = X} mid new [] [] (with_sent (with_sent is (from_site n (map outgoing_of front))) (from_site n (outgoing_of one ∷ []))) [] (Err error)
    → Becomes {X = X} old last [] [] (with_sent is (from_site n (map outgoing_of all))) [] (Err error)
sends-over X old mid new last is n all front back one (SentLimit total) same whole over =
    let now = front ++ one ∷ [] in
    subst (λ (limit : ℕ). over_limit limit (with_sent is (from_site n (map outgoing_of all))) ≡ Some total) same.limit
    (subst (λ (sends : List Outgoing). over_limit mid.mail.limit (with_sent is (from_site n (map outgoing_of sends))) ≡ Some total) (sym whole)
    (subst (λ (w : model.World). over_limit mid.mail.limit w ≡ Some total)
    (sent-append is (from_site n (map outgoing_of now)) (from_site n (map outgoing_of back))
    ∙ ap (with_sent is) (sym (map-append (λ (o : state.Outgoing). record { from = n; to = o.to; message = o.message }) (map outgoing_of now) (map outgoing_of back))
    ∙ ap (from_site n) (sym (map-append outgoing_of now back))))
    (over_limit-stays mid.mail.limit (with_sent is (from_site n (map outgoing_of now))) (from_site n (map outgoing_of back)) total
    (subst (λ (w : model.World). over_limit mid.mail.limit w ≡ Some total) (sent-more is n front one) over))))
sends-over X old mid new last is n all front back one NoMemory same whole over = tt

-- A list at one of its places.
pub record Split {X : Type 0} (all front : List X) (x : X) : Type 0 where
  pub back : List X
  pub is : all ≡ (front ++ x ∷ []) ++ back

pub split-at : {X : Type 0} (all front : List X) (x : X) → length front < length all → x ≡ get_or all (length front) x → map (λ y. y) front ≡ take (length front) all → Split all front x
split-at [] front x within at far = absurd (omega (arith, within))
split-at (a ∷ all) [] x within at far = record { back = all; is = ap (λ y. y ∷ all) (sym at) }
split-at (a ∷ all) (b ∷ front) x within at far =
    let rest : Split all front x = split-at all front x (omega (arith, within)) at (tails far) in
    record { back = rest.back; is = ap₂ (λ y ys. y ∷ ys) (sym (heads far)) rest.is }

-- An error that came of another is that one.
pub over-result : (X : Type 0) (old new : World) (is : model.World) (result : Result X WorldError) (error : WorldError) → IsErrAnd result (λ e. e ≡ error)
    → Becomes {X = X} old new [] [] is [] (Err error) → Becomes old new [] [] is [] result
over-result X old new is (Ok x) error same becomes = absurd same
over-result X old new is (Err e) error same becomes = subst (λ (w : WorldError). Becomes {X = X} old new [] [] is [] (Err w)) (sym same) becomes
