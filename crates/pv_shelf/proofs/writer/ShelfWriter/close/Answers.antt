-- The list that the readers found is the one that is given.
use Rattle.std.proofs.Common.{◌≡◌, All, List, subst}
use mathlib.Core.List.{IsPrefix}
use Rattle.pv_shelf.specs.Part.{Part}
use Rattle.pv_shelf.specs.Shelves.{seen}
use Rattle.pv_shelf.specs.declared.reader.ShelfReader.{ShelfReader}
use Rattle.pv_shelf.proofs.writer.ShelfWriter.close.Goals as goal

pub returns-clause-readers : goal.returns-clause-readers
returns-clause-readers g c =
    let whole : c.deref.result.now ≡ c.into_parts.result.items = cc in
    subst (λ (log : List Part). All (λ (reader : ShelfReader). IsPrefix (seen reader) log) c.args.readers.items) whole c.finish_all.ensures
