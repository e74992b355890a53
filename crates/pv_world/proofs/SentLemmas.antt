-- The lines of the messages that were sent, one after another.
use Rattle.std.proofs.Common.{◌≡◌, ℕ, zero, suc, ◌+◌, ◌<◌, List, [], ◌∷◌, ◌++◌, length, drop, Some, refl, sym, ap, ◌∙◌, arith, append_assoc}
use Rattle.std.specs.Prelude.{slice_get}
use Rattle.std.proofs.lemmas.Option.{none-some}
use Rattle.pv_base.proofs.Basics.{Some_inj}
use Rattle.pv_format.specs.Message.{Envelope}
use Rattle.pv_format.specs.MessageSpelling.{SpellsEnvelope}
use Rattle.pv_protocol.specs.Lines.{Line}
use Rattle.pv_protocol.specs.Report.{sent_from}
use Rattle.pv_world.specs.Carry.{Carry}
use Rattle.pv_world.specs.Mail.{Posted}
use Rattle.pv_world.proofs.MailWorld.{carried-at}

there : (posts : List Posted) (n : ℕ) → n < length posts → (post : Posted) × (slice_get posts n ≡ Some post)
there [] n within = absurd (omega arith)
there (post ∷ posts) zero within = (post, refl)
there (post ∷ posts) (suc n) within = there posts n (omega arith)

drop-there : (sent : List Envelope) (n : ℕ) (envelope : Envelope) → slice_get sent n ≡ Some envelope → drop n sent ≡ envelope ∷ drop (suc n) sent
drop-there [] n envelope is = absurd (none-some _ is)
drop-there (first ∷ sent) zero envelope is = ap (λ envelope. envelope ∷ sent) (Some_inj is)
drop-there (first ∷ sent) (suc n) envelope is = drop-there sent n envelope is

-- A line more is one message less.
pub message-step : (posts : List Posted) (sent : List Envelope) (n : ℕ) (old new all : List Line) → Carry posts sent → n < length posts
    → ((post : Posted) (envelope : Envelope) → slice_get posts n ≡ Some post → SpellsEnvelope envelope post.bytes → new ≡ old ++ sent_from n (envelope ∷ []))
    → old ++ sent_from n (drop n sent) ≡ all → new ++ sent_from (n + 1) (drop (n + 1) sent) ≡ all
message-step posts sent n old new all carry within adds left =
    let post = there posts n within in
    let found = carried-at posts sent n post.0 carry post.1 in
    let rest = drop-there sent n found.envelope found.there in
    let next : n + 1 ≡ suc n = omega arith in
    ap (λ lines. lines ++ sent_from (n + 1) (drop (n + 1) sent)) (adds post.0 found.envelope post.1 found.spells)
    ∙ append_assoc old (sent_from n (found.envelope ∷ [])) (sent_from (n + 1) (drop (n + 1) sent))
    ∙ ap (λ m. old ++ (sent_from n (found.envelope ∷ []) ++ sent_from (n + 1) (drop m sent))) next
    ∙ ap (λ envelopes. old ++ sent_from n envelopes) (sym rest)
    ∙ left

-- The last line is followed by none.
pub drop-past : (sent : List Envelope) (n : ℕ) → n ≡ length sent → drop n sent ≡ []
drop-past [] zero is = refl
drop-past [] (suc n) is = refl
drop-past (envelope ∷ sent) zero is = absurd (omega arith)
drop-past (envelope ∷ sent) (suc n) is = drop-past sent n (omega arith)
