-- What the mail is in the world that it stands for.
use Rattle.std.proofs.Common.{◌≡◌, ℕ, zero, suc, ◌+◌, ◌<◌, ◌≤◌, Bool, true, false, ◌&&◌, not, List, [], ◌∷◌, ◌++◌, map, length, set, eqb, ltb, cond, Option, Some, None, refl, sym, ap, ap₂, ◌∙◌, subst, arith}
use Rattle.std.specs.Prelude.{slice_get, nat_lt}
use Rattle.std.specs.List.{position, position_or_len, sum_by}
use Rattle.std.proofs.lemmas.Bool.{lt-ltb, le-ltb}
use Rattle.std.proofs.lemmas.List.Sums.{sum_by-cons}
use Rattle.std.proofs.lemmas.Option.{none-some}
use Rattle.pv_base.proofs.Basics.{Some_inj}
use Rattle.pv_format.specs.Length.{envelope_length}
use Rattle.pv_format.specs.Message.{Envelope}
use Rattle.pv_format.specs.MessageSpelling.{SpellsEnvelope}
use Rattle.pv_law_format.proofs.LengthLemmas.{envelope-length}
use Rattle.pv_protocol.specs.Attempt.{lost, without_site}
use Rattle.pv_protocol.specs.Limit.{over, over_limit}
use Rattle.pv_protocol.specs.Lines.{no_message}
use Rattle.pv_protocol.specs.World.{World, with_done, with_sent}
use Rattle.pv_protocol.specs.WorldStep.{ended}
use Rattle.pv_world.specs.Carry.{Carry}
use Rattle.pv_world.specs.Mail.{Posted, bytes_sent, with_done_post, without_posts_to}

-- The messages.

pub Carry-done : (n : ℕ) (posts : List Posted) (sent : List Envelope) → Carry posts sent → Carry (with_done_post n posts) sent
Carry-done n [] sent carry = carry
Carry-done zero (post ∷ posts) [] carry = carry
Carry-done (suc n) (post ∷ posts) [] carry = carry
Carry-done zero (post ∷ posts) (envelope ∷ sent) carry = carry
Carry-done (suc n) (post ∷ posts) (envelope ∷ sent) carry = (carry.0, carry.1, Carry-done n posts sent carry.2)

pub Carry-dropped : (site : ℕ) (posts : List Posted) (sent : List Envelope) → Carry posts sent → Carry (without_posts_to site posts) sent
Carry-dropped site [] sent carry = carry
Carry-dropped site (post ∷ posts) [] carry = carry
Carry-dropped site (post ∷ posts) (envelope ∷ sent) carry = (carry.0, carry.1, Carry-dropped site posts sent carry.2)

pub Carry-posted : (posts : List Posted) (sent : List Envelope) (post : Posted) (envelope : Envelope) → Carry posts sent → post.to ≡ envelope.to
    → SpellsEnvelope envelope post.bytes → Carry (posts ++ post ∷ []) (sent ++ envelope ∷ [])
Carry-posted [] [] post envelope carry to spells = (to, spells, tt)
Carry-posted [] (other ∷ sent) post envelope carry to spells = absurd carry
Carry-posted (first ∷ posts) [] post envelope carry to spells = absurd carry
Carry-posted (first ∷ posts) (other ∷ sent) post envelope carry to spells =
    (carry.0, carry.1, Carry-posted posts sent post envelope carry.2 to spells)

pub length-carried : (posts : List Posted) (sent : List Envelope) → Carry posts sent → length posts ≡ length sent
length-carried [] [] carry = refl
length-carried [] (envelope ∷ sent) carry = absurd carry
length-carried (post ∷ posts) [] carry = absurd carry
length-carried (post ∷ posts) (envelope ∷ sent) carry = ap suc (length-carried posts sent carry.2)

-- A message that was posted, as it was sent.
pub record IsCarried (post : Posted) (sent : List Envelope) (n : ℕ) : Type 0 where
  pub envelope : Envelope
  pub there : slice_get sent n ≡ Some envelope
  pub to : post.to ≡ envelope.to
  pub spells : SpellsEnvelope envelope post.bytes

pub carried-at : (posts : List Posted) (sent : List Envelope) (n : ℕ) (post : Posted) → Carry posts sent → slice_get posts n ≡ Some post → IsCarried post sent n
carried-at [] sent n post carry is = absurd (none-some _ is)
carried-at (first ∷ posts) [] n post carry is = absurd carry
carried-at (first ∷ posts) (envelope ∷ sent) zero post carry is =
    subst (λ post. IsCarried post (envelope ∷ sent) zero) (Some_inj is) (record { envelope = envelope; there = refl; to = carry.0; spells = carry.1 })
carried-at (first ∷ posts) (envelope ∷ sent) (suc n) post carry is =
    let later = carried-at posts sent n post carry.2 is in
    record { envelope = later.envelope; there = later.there; to = later.to; spells = later.spells }

pub none-carried : (posts : List Posted) (sent : List Envelope) (n : ℕ) → Carry posts sent → slice_get posts n ≡ None → slice_get sent n ≡ None
none-carried [] [] n carry is = refl
none-carried [] (envelope ∷ sent) n carry is = absurd carry
none-carried (post ∷ posts) [] n carry is = refl
none-carried (post ∷ posts) (envelope ∷ sent) zero carry is = absurd (none-some _ (sym is))
none-carried (post ∷ posts) (envelope ∷ sent) (suc n) carry is = none-carried posts sent n carry.2 is

-- The marks.

pub fresh-done : (n : ℕ) (posts : List Posted) → map (λ post. post.fresh) (with_done_post n posts) ≡ set (map (λ post. post.fresh) posts) n false
fresh-done n [] = refl
fresh-done zero (post ∷ posts) = refl
fresh-done (suc n) (post ∷ posts) = ap (λ marks. post.fresh ∷ marks) (fresh-done n posts)

pub fresh-dropped : (site : ℕ) (posts : List Posted) (sent : List Envelope) → Carry posts sent
    → map (λ post. post.fresh) (without_posts_to site posts) ≡ without_site site sent (map (λ post. post.fresh) posts)
fresh-dropped site [] [] carry = refl
fresh-dropped site [] (envelope ∷ sent) carry = refl
fresh-dropped site (post ∷ posts) [] carry = absurd carry
fresh-dropped site (post ∷ posts) (envelope ∷ sent) carry =
    ap₂ (λ (to : ℕ) marks. (post.fresh && not (eqb to site)) ∷ marks) carry.0 (fresh-dropped site posts sent carry.2)

pub fresh-posted : (posts : List Posted) (post : Posted) → map (λ post. post.fresh) (posts ++ post ∷ []) ≡ map (λ post. post.fresh) posts ++ post.fresh ∷ []
fresh-posted [] post = refl
fresh-posted (first ∷ posts) post = ap (λ marks. first.fresh ∷ marks) (fresh-posted posts post)

place-fresh : (posts : List Posted) → position_or_len (λ post. post.fresh) posts ≡ position_or_len (λ fresh. fresh) (map (λ post. post.fresh) posts)
place-fresh [] = refl
place-fresh (post ∷ posts) = ap (λ (n : ℕ). cond (not post.fresh) (1 + n) 0) (place-fresh posts)

length-fresh : (posts : List Posted) → length posts ≡ length (map (λ (post : Posted). post.fresh) posts)
length-fresh [] = refl
length-fresh (post ∷ posts) = ap suc (length-fresh posts)

-- The least fresh message is the first mark.
pub next-fresh : (posts : List Posted) → position (λ post. post.fresh) posts ≡ position (λ fresh. fresh) (map (λ post. post.fresh) posts)
next-fresh posts = ap₂ (λ (n m : ℕ). cond (ltb n m) (Some n) None) (place-fresh posts) (length-fresh posts)

-- The limit.

pub sent-lengths : (posts : List Posted) (sent : List Envelope) → Carry posts sent → bytes_sent posts ≡ sum_by envelope_length sent
sent-lengths [] [] carry = refl
sent-lengths [] (envelope ∷ sent) carry = absurd carry
sent-lengths (post ∷ posts) [] carry = absurd carry
sent-lengths (post ∷ posts) (envelope ∷ sent) carry =
    sum_by-cons (λ (post : Posted). length post.bytes) post posts
    ∙ ap₂ (λ (n m : ℕ). n + m) (envelope-length envelope post.bytes carry.1) (sent-lengths posts sent carry.2)
    ∙ sym (sum_by-cons envelope_length envelope sent)

over-by : (b : Bool) (limit total : ℕ) (rest : Option ℕ) → cond b (Some total) rest ≡ None → (b ≡ false) × (rest ≡ None)
over-by true limit total rest none = absurd (none-some _ (sym none))
over-by false limit total rest none = (refl, none)

-- Where messages are within the limit, those behind them count from their total.
pub over-append : (limit total : ℕ) (sent more : List Envelope) → over limit total sent ≡ None
    → over limit total (sent ++ more) ≡ over limit (total + sum_by envelope_length sent) more
over-append limit total [] more within = ap (λ total. over limit total more) (omega arith)
over-append limit total (envelope ∷ sent) more within =
    let now = over-by (nat_lt limit (total + envelope_length envelope)) limit (total + envelope_length envelope) (over limit (total + envelope_length envelope) sent) within in
    let sum = sum_by-cons envelope_length envelope sent in
    ap (λ b. cond b (Some (total + envelope_length envelope)) (over limit (total + envelope_length envelope) (sent ++ more))) now.0
    ∙ over-append limit (total + envelope_length envelope) sent more now.1
    ∙ ap (λ total. over limit total more) (omega arith)

over-more : (b : Bool) (total : ℕ) (rest other : Option ℕ) (passed : ℕ) → (rest ≡ Some passed → other ≡ Some passed)
    → cond b (Some total) rest ≡ Some passed → cond b (Some total) other ≡ Some passed
over-more true total rest other passed later is = is
over-more false total rest other passed later is = later is

-- The first message that passes the limit stays the first.
pub over-stays : (limit total : ℕ) (sent more : List Envelope) (passed : ℕ) → over limit total sent ≡ Some passed → over limit total (sent ++ more) ≡ Some passed
over-stays limit total [] more passed is = absurd (none-some _ is)
over-stays limit total (envelope ∷ sent) more passed is =
    over-more (nat_lt limit (total + envelope_length envelope)) (total + envelope_length envelope) (over limit (total + envelope_length envelope) sent)
    (over limit (total + envelope_length envelope) (sent ++ more)) passed (over-stays limit (total + envelope_length envelope) sent more passed) is

pub over_limit-stays : (limit : ℕ) (world : World) (more : List Envelope) (passed : ℕ) → over_limit limit world ≡ Some passed
    → over_limit limit (with_sent world more) ≡ Some passed
unfolding over_limit
over_limit-stays limit world more passed is = over-stays limit 0 world.sent more passed is

-- A message that is posted within the limit.
pub within-posted : (limit : ℕ) (posts : List Posted) (world : World) (envelope : Envelope) (bytes : List ℕ) → Carry posts world.sent → over_limit limit world ≡ None
    → SpellsEnvelope envelope bytes → bytes_sent posts + length bytes ≤ limit → over_limit limit (with_sent world (envelope ∷ [])) ≡ None
unfolding over_limit
within-posted limit posts world envelope bytes carry within spells fits =
    let long = envelope-length envelope bytes spells in
    let sum = sent-lengths posts world.sent carry in
    over-append limit 0 world.sent (envelope ∷ []) within
    ∙ ap (λ b. cond b (Some (0 + sum_by envelope_length world.sent + envelope_length envelope)) None)
    (le-ltb limit (0 + sum_by envelope_length world.sent + envelope_length envelope) (omega arith))

-- A message that passes the limit, whatever is sent after it.
pub past-posted : (limit : ℕ) (posts : List Posted) (world : World) (envelope : Envelope) (bytes : List ℕ) (more : List Envelope) → Carry posts world.sent
    → over_limit limit world ≡ None → SpellsEnvelope envelope bytes → limit < bytes_sent posts + length bytes
    → over_limit limit (with_sent world (envelope ∷ more)) ≡ Some (bytes_sent posts + length bytes)
unfolding over_limit
past-posted limit posts world envelope bytes more carry within spells past =
    let long = envelope-length envelope bytes spells in
    let sum = sent-lengths posts world.sent carry in
    let total = 0 + sum_by envelope_length world.sent + envelope_length envelope in
    over-append limit 0 world.sent (envelope ∷ more) within
    ∙ ap (λ b. cond b (Some total) (over limit total more)) (lt-ltb limit total (omega arith))
    ∙ ap Some (omega arith)

-- A number that no message has.
past : (sent : List Envelope) (n : ℕ) → length sent ≤ n → slice_get sent n ≡ None
past [] n h = refl
past (envelope ∷ sent) zero h = absurd (omega arith)
past (envelope ∷ sent) (suc n) h = past sent n (omega arith)

-- A number that a message has.
within : (sent : List Envelope) (n : ℕ) → n < length sent → (envelope : Envelope) × (slice_get sent n ≡ Some envelope)
within [] n h = absurd (omega arith)
within (envelope ∷ sent) zero h = (envelope, refl)
within (envelope ∷ sent) (suc n) h = within sent n (omega arith)

pub lost-past : (is : World) (n : ℕ) → length is.sent ≤ n → ended (lost is n (slice_get is.sent n)) ≡ (no_message n ∷ [], is)
lost-past is n h = ap (λ found. ended (lost is n found)) (past is.sent n h)

pub lost-within : (is : World) (n : ℕ) → n < length is.sent → ended (lost is n (slice_get is.sent n)) ≡ ([], with_done is n)
lost-within is n h = let found = within is.sent n h in ap (λ found. ended (lost is n found)) found.1
