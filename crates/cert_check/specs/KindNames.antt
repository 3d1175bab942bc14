-- The words for the kinds of refusal.
use Rattle.std.specs.Prelude.{ℕ, List, codes}
use Rattle.cert_check.specs.declared.refuted.RefutedKind.{RefutedKind}
use Rattle.cert_check.specs.declared.refuted.RefutedKind.TheVariants as kind

-- the word for a kind
unfoldable pub kind_name : RefutedKind → List ℕ
kind_name kind.AfterEnd = codes "AfterEnd"
kind_name kind.BadLine = codes "BadLine"
kind_name kind.CutLoose = codes "CutLoose"
kind_name kind.CutMissing = codes "CutMissing"
kind_name kind.CutNeedless = codes "CutNeedless"
kind_name kind.Called = codes "Called"
kind_name kind.Head = codes "Head"
kind_name kind.Opening = codes "Opening"
kind_name kind.Evaporation = codes "Evaporation"
kind_name kind.Return = codes "Return"
kind_name kind.Used = codes "Used"
kind_name kind.Flow = codes "Flow"
kind_name kind.Delivery = codes "Delivery"
kind_name kind.Balance = codes "Balance"
kind_name kind.Closing = codes "Closing"
kind_name kind.EarlyEnd = codes "EarlyEnd"
kind_name kind.NotReach = codes "NotReach"
