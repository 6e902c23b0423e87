-- What a refusal prints.
use Rattle.std.specs.Prelude.{ℕ, List, ◌++◌, codes, decimal}
use Rattle.refusals.specs.declared.Layer.{Layer}
use Rattle.refusals.specs.declared.Layer.TheVariants.{Reader, Register, House, Till}
use Rattle.refusals.specs.declared.Refusal.{Refusal}

-- the printed name of a layer
abbrev pub layer_name : Layer → List ℕ
layer_name Reader = codes "reader"
layer_name Register = codes "register"
layer_name House = codes "house"
layer_name Till = codes "till"

-- refused NUMBER LAYER PLACE
abbrev pub printed : Refusal → List ℕ
printed r = codes "refused " ++ (decimal r.number ++ (codes " " ++ (layer_name r.layer ++ (codes " " ++ decimal r.place))))
