-- How the reason why the disks of a bay aren't shown is printed.
use Rattle.std.specs.Prelude.{ℕ, List, codes}
use Rattle.pv_show.specs.declared.show_error.ShowError.{ShowError}
use Rattle.pv_show.specs.declared.show_error.ShowError.TheVariants.{BayFault, NoMemory}

abbrev pub show_error_text : ShowError → List ℕ
show_error_text BayFault = codes "the bay failed"
show_error_text NoMemory = codes "no memory"
