-- What is written of an audit.
use Rattle.std.specs.Prelude.{ℕ, List, ◌++◌, codes, decimal}
use Rattle.pv_audit.specs.Findings.{Verdict, all_agree, at_report, no_order, no_item, limit}
use Rattle.pv_base.specs.Catalog.{Declared}
use Rattle.pv_base.specs.Txn.{txn_text}
use Rattle.pv_model.specs.ReplyText.{line_feed}
use Rattle.pv_protocol.specs.LineText.{name_of, spaced}

-- the verdict on a trace with this catalog
unfoldable pub verdict_text : Declared → Verdict → List ℕ
verdict_text catalog (all_agree count) = codes "yes " ++ (decimal count ++ line_feed)
verdict_text catalog (at_report number (no_order txn)) = codes "no " ++ (decimal number ++ (codes " order " ++ (txn_text txn ++ line_feed)))
verdict_text catalog (at_report number (no_item item txns)) =
    codes "no " ++ (decimal number ++ (codes " item " ++ (name_of catalog item ++ (spaced txn_text txns ++ line_feed))))
verdict_text catalog (at_report number (limit names)) = codes "limit " ++ (decimal number ++ (codes " " ++ (decimal names ++ line_feed)))
