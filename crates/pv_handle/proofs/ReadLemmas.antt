-- What is read of an item.
use Rattle.std.proofs.Common.{◌≡◌, sym, ap, subst, ◌∙◌, ℕ, List, Option, Some, None, Ok}
use Rattle.pv_base.specs.Catalog.{Declared, place_of}
use Rattle.pv_base.specs.declared.txn.TxnId.{TxnId}
use Rattle.pv_embed.specs.Held.{Held}
use Rattle.pv_embed.specs.Hosted.{HostedState}
use Rattle.pv_embed.specs.Requests.{ReadsBy}
use Rattle.pv_handle.specs.ByteSite.{ReadsBytes, item_text}
use Rattle.pv_handle.specs.Given.{GivesBytes}
use Rattle.pv_handle.specs.declared.given.Given.{Given}
use Rattle.pv_host.specs.HostLog.{HostState}
use Rattle.pv_protocol.specs.LineText.{line_text}
use Rattle.pv_protocol.specs.Report.{Reading, cases, locked, down, item_line, reading_at, shown_unless_held}
use Rattle.pv_protocol.specs.Shown.{shown}
use Rattle.pv_protocol.specs.State.{Running}
use Rattle.pv_report.specs.NamesOnlyItems.{HasItem, NamesOnlyItems}
use Rattle.pv_site.specs.Asked.{Shows}
use Rattle.pv_site.specs.SiteState.{SiteState}
use Rattle.pv_site.specs.declared.input.Shown.{Shown}
use Rattle.pv_site.specs.declared.input.Shown.TheVariants.{Down, Locked, Cases}
use Rattle.pv_world.specs.Readings.{reading_in}

-- The line of an item of the catalog names no other.
pub item-named : (catalog : Declared) (n : ℕ) (reading : Reading) → HasItem catalog n → NamesOnlyItems catalog (item_line n reading)
item-named catalog n (cases value) there = there
item-named catalog n (locked holder) there = there
item-named catalog n (down site) there = there

-- What the site shows is the reading of a report.
shows-reading : (site : SiteState HostState) (running : Option Running) (me n : ℕ) (found : Shown) → Shows site running n found
    → reading_in me found ≡ reading_at me running n (shown site.catalog site.records n)
shows-reading site running me n Down is = ap (λ (r : Option Running). reading_at me r n (shown site.catalog site.records n)) (sym is)
shows-reading site None me n (Locked txn) is = absurd is
shows-reading site (Some running) me n (Locked txn) is = sym (ap (λ (holder : Option TxnId). shown_unless_held holder (shown site.catalog site.records n)) is)
shows-reading site None me n (Cases value) is = absurd is
shows-reading site (Some running) me n (Cases value) is =
    ap cases is.1 ∙ sym (ap (λ (holder : Option TxnId). shown_unless_held holder (shown site.catalog site.records n)) is.0)

module _ (hosted : HostedState) (name room out : List ℕ) where
  same-place : (n m : ℕ) → place_of name hosted.site.catalog.items ≡ Some n → place_of name hosted.site.catalog.items ≡ Some m → m ≡ n
  same-place n m first second = let same : Some n ≡ Some m = sym first ∙ second in cc

  -- What is to be let out doesn't matter.
  pub reads : (held : List Held) (found : Shown) (m : ℕ) (text : List ℕ) (given : Given) → ReadsBy hosted name (Ok found) → place_of name hosted.site.catalog.items ≡ Some m
      → text ≡ line_text hosted.site.catalog (item_line m (reading_in hosted.site.me found)) → GivesBytes text 0 room out given → ReadsBytes (record hosted { held = held }) name room out (Ok given)
  reads held found m text given read place is gives =
      let at : m ≡ read.0 = same-place read.0 m read.2 place in
      let reading : reading_in hosted.site.me found ≡ reading_at hosted.site.me hosted.site.running read.0 (shown hosted.site.catalog hosted.site.records read.0) =
      shows-reading hosted.site hosted.site.running hosted.site.me read.0 found read.5 in
      let all : text ≡ item_text hosted read.0 =
      is
      ∙ (ap (λ (n : ℕ). line_text hosted.site.catalog (item_line n (reading_in hosted.site.me found))) at
      ∙ ap (λ (r : Reading). line_text hosted.site.catalog (item_line read.0 r)) reading) in
      (read.0, read.1, record { place = read.2; declared = read.3 }, read.4, read.6, subst (λ (t : List ℕ). GivesBytes t 0 room out given) all gives)
