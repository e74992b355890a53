-- What is taken of what waits, and what waits then.
use Rattle.std.proofs.Common.{◌≡◌, sym, ap, subst, ◌∙◌, ℕ, ◌≤◌, List, Option, Some, None, Ok, IfSome, arith}
use Rattle.std.proofs.lemmas.List.Elements.{All-tail}
use Rattle.pv_base.specs.Catalog.{Declared}
use Rattle.pv_base.specs.declared.failure.NoMemory.{NoMemory}
use Rattle.pv_law_step.proofs.Lists.{all-head}
use Rattle.pv_site.specs.SiteState.{SiteState}
use Rattle.pv_host.specs.HostLog.{HostState}
use Rattle.pv_embed.specs.Held.{Held}
use Rattle.pv_embed.specs.Hosted.{HostedState, stored_length}
use Rattle.pv_embed.specs.Outputs.{out_of}
use Rattle.pv_handle.proofs.ByteLemmas.{front, IsGivable}
use Rattle.pv_handle.specs.ByteSite.{CanGive, GivesOut, IsNext, TakesBytes}
use Rattle.pv_handle.specs.ByteView.{IsByteSite}
use Rattle.pv_handle.specs.Waiting.{waits_before, left_after}
use Rattle.pv_handle.specs.declared.bytes.ByteSite.TheInside.{Inside}
use Rattle.pv_handle.specs.declared.bytes.Waiting.{Waiting}
use Rattle.pv_handle.specs.declared.given.Given.{Given}
use Rattle.pv_handle.specs.declared.given.Given.TheVariants.{Nothing, Bytes, TooSmall}

-- What waits, as what is held.
abbrev pub in_held : Waiting → Held
in_held waiting = record { length = waiting.length; out = out_of waiting.output }

abbrev hosted_with : SiteState HostState → List Held → HostedState
hosted_with site held = record { site = site; held = held }

-- To bring forth what is next changes nothing.
pub brought : (before after : HostedState) (was waits : Option Waiting) → waits_before waits after.held ≡ waits_before was before.held
    → after ≡ record before { held = after.held } → front waits after ≡ front was before
brought before after was waits held same =
    ap (λ (site : SiteState HostState). hosted_with site (waits_before waits after.held)) (ap (λ (hosted : HostedState). hosted.site) same)
    ∙ ap (hosted_with before.site) held

-- What waits has bytes.
pub waiting-good : (after : HostedState) (waits : Option Waiting) (waiting : Waiting) (me : ℕ) (catalog : Declared) → IsGivable (front waits after) → waits ≡ Some waiting
    → me ≡ after.site.me → catalog ≡ after.site.catalog → CanGive me catalog (out_of waiting.output)
waiting-good after waits waiting me catalog givable is same_me same_catalog =
    let all : IsGivable (front (Some waiting) after) = subst (λ (w : Option Waiting). IsGivable (front w after)) is givable in
    let good : CanGive after.site.me after.site.catalog (out_of waiting.output) =
    all-head (λ (held : Held). CanGive after.site.me after.site.catalog held.out) (in_held waiting) after.held all in
    subst (λ (m : ℕ). CanGive m catalog (out_of waiting.output)) (sym same_me)
    (subst (λ (c : Declared). CanGive after.site.me c (out_of waiting.output)) (sym same_catalog) good)

-- What waits is taken, or stays.
module _ (old after : HostedState) (waiting : Waiting) (is : front (Some waiting) after ≡ old) (stored : waiting.length ≤ stored_length after) (room out : List ℕ) where
  next : IsNext old (in_held waiting) after.held
  next =
      let same : stored_length after ≡ stored_length old = ap stored_length is in
      record { held = sym (ap (λ (hosted : HostedState). hosted.held) is); stored = omega (arith, same, stored) }

  gives : (given : Given) → GivesOut after.site.me after.site.catalog (out_of waiting.output) room out given → GivesOut old.site.me old.site.catalog (out_of waiting.output) room out given
  gives given gives_out = subst (λ (hosted : HostedState). GivesOut hosted.site.me hosted.site.catalog (out_of waiting.output) room out given) is gives_out

  pub takes : (given : Given) → GivesOut after.site.me after.site.catalog (out_of waiting.output) room out given
      → TakesBytes {E = NoMemory} room out old (front (left_after given (Some waiting)) after) (Ok given)
  takes Nothing gives_out = absurd gives_out.gives
  takes (Bytes count to) gives_out =
      (in_held waiting, after.held, next, gives (Bytes count to) gives_out, ap (λ (hosted : HostedState). record hosted { held = after.held }) is)
  takes (TooSmall needed) gives_out = (in_held waiting, after.held, next, gives (TooSmall needed) gives_out, is)

-- What waits still may have been let out, and all that is left has bytes.
left-stored : (given : Given) (waits : Option Waiting) (stored : ℕ) → IfSome waits (λ (waiting : Waiting). waiting.length ≤ stored)
    → IfSome (left_after given waits) (λ (waiting : Waiting). waiting.length ≤ stored)
left-stored Nothing waits stored may = may
left-stored (Bytes count to) waits stored may = tt
left-stored (TooSmall needed) waits stored may = may

behind-good : (waits : Option Waiting) (after : HostedState) → IsGivable (front waits after) → IsGivable (front None after)
behind-good None after givable = givable
behind-good (Some waiting) after givable = All-tail (λ (held : Held). CanGive after.site.me after.site.catalog held.out) (in_held waiting) after.held givable

left-good : (given : Given) (waits : Option Waiting) (after : HostedState) → IsGivable (front waits after) → IsGivable (front (left_after given waits) after)
left-good Nothing waits after givable = givable
left-good (Bytes count to) waits after givable = behind-good waits after givable
left-good (TooSmall needed) waits after givable = givable

module _ (inside : Inside) (after : HostedState) (waits : Option Waiting) (was : IsByteSite inside)
    (held : waits_before waits after.held ≡ waits_before inside.waiting inside.site.held) (same : after ≡ record inside.site { held = after.held })
    (stored : IfSome inside.waiting (λ (waiting : Waiting). waiting.length ≤ stored_length inside.site) → IfSome waits (λ (waiting : Waiting). waiting.length ≤ stored_length inside.site)) where
  pub brought-is : front waits after ≡ front inside.waiting inside.site
  brought-is = brought inside.site after inside.waiting waits held same

  pub brought-good : IsGivable (front waits after)
  brought-good = subst IsGivable (sym brought-is) was.given

  pub brought-stored : IfSome waits (λ (waiting : Waiting). waiting.length ≤ stored_length after)
  brought-stored =
      let is : stored_length after ≡ stored_length inside.site = ap stored_length same in
      subst (λ (n : ℕ). IfSome waits (λ (waiting : Waiting). waiting.length ≤ n)) (sym is) (stored was.stored)

  -- What the fields say is so after a taking.
  pub left-keeps : (given : Given) (left : Option Waiting) → left ≡ left_after given waits → IsByteSite (record inside { site = after; waiting = left })
  left-keeps given left is =
      subst (λ (w : Option Waiting). IsByteSite (record inside { site = after; waiting = w })) (sym is)
      (record { stored = left-stored given waits (stored_length after) brought-stored; given = left-good given waits after brought-good })
