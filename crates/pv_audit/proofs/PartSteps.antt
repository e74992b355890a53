-- The parts of a trace that are gone through one by one: each is at most one report.
use Rattle.std.proofs.Common.{◌≡◌, ℕ, ◌+◌, ◌<◌, ◌≤◌, List, [], ◌∷◌, ◌++◌, length, map, take, drop, get_or, sym, ap, subst, ◌∙◌, arith}
use Rattle.std.specs.Prelude.{All}
use Rattle.std.proofs.Math.ListN.{get_or-map}
use Rattle.std.proofs.lemmas.List.{at_drop_more, length-map, map-append, take-append-drop, take_more}
use Rattle.std.proofs.lemmas.List.Elements.{All-get_or, All-push, All-weaker}
use Rattle.pv_audit.specs.Differences.{HasPolyvalue, IsItemOf}
use Rattle.pv_audit.specs.Reports.{report_in}
use Rattle.pv_audit.specs.Traces as model
use Rattle.pv_audit.specs.Views.{part_of}
use Rattle.pv_audit.specs.declared.trace.TracePart.{TracePart}
use Rattle.pv_audit.proofs.FitLemmas.{Fits}
use Rattle.pv_base.specs.declared.txn.TxnId.{TxnId}
use Rattle.pv_model.specs.Events.{Event, submit, deliver, pump, lose, drop as dropped, tick, stop, start, arm, mend, checkpoint, sent, report, total}
use Rattle.pv_model.specs.Serial.{Ordered}
use Rattle.pv_protocol.specs.Lines.{Line}
use Rattle.pv_script.specs.LineView.{line_of}
use Rattle.pv_script.specs.declared.line.Line as code

-- ---- at most one report

third-line : (begun : List Ordered) (ordered committed : List TxnId) → (lines : List Line) → length (report_in begun report (Line.order ordered ∷ (Line.committed committed ∷ lines))) ≤ 1
third-line begun ordered committed [] = omega arith
third-line begun ordered committed ((Line.txn t) ∷ lines) = omega arith
third-line begun ordered committed ((Line.commit t replies) ∷ lines) = omega arith
third-line begun ordered committed ((Line.refuse t cause) ∷ lines) = omega arith
third-line begun ordered committed ((Line.full site long) ∷ lines) = omega arith
third-line begun ordered committed ((Line.spent site) ∷ lines) = omega arith
third-line begun ordered committed ((Line.down site) ∷ lines) = omega arith
third-line begun ordered committed ((Line.up site) ∷ lines) = omega arith
third-line begun ordered committed ((Line.stopped site) ∷ lines) = omega arith
third-line begun ordered committed ((Line.fault site) ∷ lines) = omega arith
third-line begun ordered committed ((Line.started site epoch) ∷ lines) = omega arith
third-line begun ordered committed ((Line.no_message n) ∷ lines) = omega arith
third-line begun ordered committed ((Line.sent n from to kind t) ∷ lines) = omega arith
third-line begun ordered committed ((Line.order txns) ∷ lines) = omega arith
third-line begun ordered committed ((Line.committed txns) ∷ lines) = omega arith
third-line begun ordered committed ((Line.open_ones txns) ∷ lines) = omega arith
third-line begun ordered committed ((Line.item n cases) ∷ lines) = omega arith
third-line begun ordered committed ((Line.item_locked n t) ∷ lines) = omega arith
third-line begun ordered committed ((Line.item_down n) ∷ lines) = omega arith
third-line begun ordered committed (Line.end ∷ lines) = omega arith
third-line begun ordered committed ((Line.total sums) ∷ lines) = omega arith
third-line begun ordered committed ((Line.total_locked n) ∷ lines) = omega arith
third-line begun ordered committed ((Line.total_down site) ∷ lines) = omega arith
third-line begun ordered committed ((Line.total_limit names) ∷ lines) = omega arith

second-line : (begun : List Ordered) (ordered : List TxnId) → (lines : List Line) → length (report_in begun report (Line.order ordered ∷ lines)) ≤ 1
second-line begun ordered [] = omega arith
second-line begun ordered ((Line.txn t) ∷ lines) = omega arith
second-line begun ordered ((Line.commit t replies) ∷ lines) = omega arith
second-line begun ordered ((Line.refuse t cause) ∷ lines) = omega arith
second-line begun ordered ((Line.full site long) ∷ lines) = omega arith
second-line begun ordered ((Line.spent site) ∷ lines) = omega arith
second-line begun ordered ((Line.down site) ∷ lines) = omega arith
second-line begun ordered ((Line.up site) ∷ lines) = omega arith
second-line begun ordered ((Line.stopped site) ∷ lines) = omega arith
second-line begun ordered ((Line.fault site) ∷ lines) = omega arith
second-line begun ordered ((Line.started site epoch) ∷ lines) = omega arith
second-line begun ordered ((Line.no_message n) ∷ lines) = omega arith
second-line begun ordered ((Line.sent n from to kind t) ∷ lines) = omega arith
second-line begun ordered ((Line.order txns) ∷ lines) = omega arith
second-line begun ordered ((Line.committed txns) ∷ lines) = third-line begun ordered txns lines
second-line begun ordered ((Line.open_ones txns) ∷ lines) = omega arith
second-line begun ordered ((Line.item n cases) ∷ lines) = omega arith
second-line begun ordered ((Line.item_locked n t) ∷ lines) = omega arith
second-line begun ordered ((Line.item_down n) ∷ lines) = omega arith
second-line begun ordered (Line.end ∷ lines) = omega arith
second-line begun ordered ((Line.total sums) ∷ lines) = omega arith
second-line begun ordered ((Line.total_locked n) ∷ lines) = omega arith
second-line begun ordered ((Line.total_down site) ∷ lines) = omega arith
second-line begun ordered ((Line.total_limit names) ∷ lines) = omega arith

first-line : (begun : List Ordered) → (lines : List Line) → length (report_in begun report (lines)) ≤ 1
first-line begun [] = omega arith
first-line begun ((Line.txn t) ∷ lines) = omega arith
first-line begun ((Line.commit t replies) ∷ lines) = omega arith
first-line begun ((Line.refuse t cause) ∷ lines) = omega arith
first-line begun ((Line.full site long) ∷ lines) = omega arith
first-line begun ((Line.spent site) ∷ lines) = omega arith
first-line begun ((Line.down site) ∷ lines) = omega arith
first-line begun ((Line.up site) ∷ lines) = omega arith
first-line begun ((Line.stopped site) ∷ lines) = omega arith
first-line begun ((Line.fault site) ∷ lines) = omega arith
first-line begun ((Line.started site epoch) ∷ lines) = omega arith
first-line begun ((Line.no_message n) ∷ lines) = omega arith
first-line begun ((Line.sent n from to kind t) ∷ lines) = omega arith
first-line begun ((Line.order txns) ∷ lines) = second-line begun txns lines
first-line begun ((Line.committed txns) ∷ lines) = omega arith
first-line begun ((Line.open_ones txns) ∷ lines) = omega arith
first-line begun ((Line.item n cases) ∷ lines) = omega arith
first-line begun ((Line.item_locked n t) ∷ lines) = omega arith
first-line begun ((Line.item_down n) ∷ lines) = omega arith
first-line begun (Line.end ∷ lines) = omega arith
first-line begun ((Line.total sums) ∷ lines) = omega arith
first-line begun ((Line.total_locked n) ∷ lines) = omega arith
first-line begun ((Line.total_down site) ∷ lines) = omega arith
first-line begun ((Line.total_limit names) ∷ lines) = omega arith

pub one-report : (begun : List Ordered) (event : Event) (lines : List Line) → length (report_in begun event lines) ≤ 1
one-report begun (submit site query text program) lines = omega arith
one-report begun (deliver n) lines = omega arith
one-report begun (pump most) lines = omega arith
one-report begun (lose n) lines = omega arith
one-report begun (dropped site) lines = omega arith
one-report begun (tick site) lines = omega arith
one-report begun (stop site) lines = omega arith
one-report begun (start site) lines = omega arith
one-report begun (arm site k mode stops) lines = omega arith
one-report begun (mend site) lines = omega arith
one-report begun (checkpoint site) lines = omega arith
one-report begun sent lines = omega arith
one-report begun total lines = omega arith
one-report begun report lines = first-line begun lines

-- ---- the next part

module _ (parts : List TracePart) (i : ℕ) (part : TracePart) (within : i < length parts) (at : part ≡ get_or parts i part) where
  next-taken : take (i + 1) parts ≡ take i parts ++ part ∷ []
  next-taken = take_more parts i part within ∙ ap (λ (p : TracePart). take i parts ++ p ∷ []) (sym at)

  pub next-mapped : map part_of (take (i + 1) parts) ≡ map part_of (take i parts) ++ part_of part ∷ []
  next-mapped = ap (map part_of) next-taken ∙ map-append part_of (take i parts) (part ∷ [])

  pub next-split : map part_of parts ≡ map part_of (take i parts) ++ part_of part ∷ map part_of (drop (i + 1) parts)
  next-split =
      ap (map part_of)
      (sym (take-append-drop i parts)
      ∙ at_drop_more (λ (left : List TracePart). take i parts ++ left) parts i part within
      ∙ ap (λ (p : TracePart). take i parts ++ p ∷ drop (i + 1) parts) (sym at))
      ∙ map-append part_of (take i parts) (part ∷ drop (i + 1) parts)

  -- What holds of all parts holds of this one.
  pub next-holds : (P : TracePart → Type 0) → All P parts → P part
  next-holds P all = subst P (sym at) (All-get_or P parts i part within all)

  pub next-fits : (count : ℕ) → All (λ (p : model.TracePart). All (Fits count) p.lines) (map part_of parts) → All (Fits count) (part_of part).lines
  next-fits count all =
      subst (λ (p : model.TracePart). All (Fits count) p.lines) (get_or-map part_of parts i part ∙ ap part_of (sym at))
      (All-get_or (λ (p : model.TracePart). All (Fits count) p.lines) (map part_of parts) i (part_of part) (omega (arith, within, length-map parts part_of)) all)

pub fits-items : (count : ℕ) (lines : List Line) → All (Fits count) lines → All (IsItemOf count) lines
fits-items count lines fit = All-weaker (Fits count) (IsItemOf count) (λ line fits. fits.0) lines fit

pub fits-polyvalues : (count : ℕ) (lines : List Line) → All (Fits count) lines → All HasPolyvalue lines
fits-polyvalues count lines fit = All-weaker (Fits count) HasPolyvalue (λ line fits. fits.1) lines fit

-- ---- the next line

module _ (lines : List code.Line) (i : ℕ) (line : code.Line) (within : i < length lines) (at : line ≡ get_or lines i line) where
  pub line-at : get_or (map line_of lines) i (line_of line) ≡ line_of line
  line-at = get_or-map line_of lines i line ∙ ap line_of (sym at)

  pub line-within : i < length (map line_of lines)
  line-within = omega (arith, within, length-map lines line_of)

  pub line-holds : (P : Line → Type 0) → All P (map line_of lines) → P (line_of line)
  line-holds P all = subst P line-at (All-get_or P (map line_of lines) i (line_of line) line-within all)

  pub lines-more : (P : Line → Type 0) → All P (map line_of (take i lines)) → P (line_of line) → All P (map line_of (take (i + 1) lines))
  lines-more P all here =
      subst (All P)
      (sym (map-append line_of (take i lines) (line ∷ []))
      ∙ ap (map line_of) (ap (λ (l : code.Line). take i lines ++ l ∷ []) at ∙ sym (take_more lines i line within)))
      (All-push P (map line_of (take i lines)) (line_of line) all here)
