-- Faults that are passed on.
use Rattle.std.specs.Prelude.{◌≡◌, Result, Err}
use Rattle.std.proofs.Common.{ap, ◌∙◌}
use Rattle.elias_fano.specs.declared.fault.FormFault.{FormFault}
use Rattle.elias_fano.specs.declared.fault.ReadErr.{ReadErr}
use Rattle.elias_fano.specs.declared.fault.ReadErr.TheVariants as errors
use Rattle.elias_fano.specs.Reading as list
use Rattle.index_text.specs.declared.fault.IndexFault.{IndexFault}
use Rattle.index_text.specs.declared.fault.IndexFault.TheVariants as faults
use Rattle.index_text.specs.Faults.{◌>>=◌, formed, fault_of_list, Fails}

-- a step that passes faults on has the faults of what it is given
pub Fails-then : {A B : Type 0} (e : IndexFault) (r : Result A IndexFault) (f : Result A IndexFault → Result B IndexFault) →
    ((d : IndexFault) → f (Err d) ≡ Err d) → Fails e r → Fails e (f r)
Fails-then faults.NoMemory r f passes fails = tt
Fails-then faults.Short r f passes fails = ap f fails ∙ passes faults.Short
Fails-then faults.Magic r f passes fails = ap f fails ∙ passes faults.Magic
Fails-then (faults.Version found) r f passes fails = ap f fails ∙ passes (faults.Version found)
Fails-then (faults.Digest kept counted) r f passes fails = ap f fails ∙ passes (faults.Digest kept counted)
Fails-then faults.Encoding r f passes fails = ap f fails ∙ passes faults.Encoding
Fails-then (faults.Field at) r f passes fails = ap f fails ∙ passes (faults.Field at)
Fails-then (faults.Count kept sum) r f passes fails = ap f fails ∙ passes (faults.Count kept sum)
Fails-then (faults.Form form) r f passes fails = ap f fails ∙ passes (faults.Form form)
Fails-then (faults.Pilot part bucket) r f passes fails = ap f fails ∙ passes (faults.Pilot part bucket)
Fails-then (faults.Free part place) r f passes fails = ap f fails ∙ passes (faults.Free part place)
Fails-then (faults.Long at) r f passes fails = ap f fails ∙ passes (faults.Long at)
Fails-then faults.Large r f passes fails = ap f fails ∙ passes faults.Large

-- the fault of a list that was read
pub Fails-formed : {A B : Type 0} (e : ReadErr) (r : Result A FormFault) (f : A → Result B IndexFault) → list.Fails e r →
    Fails (fault_of_list e) (formed r >>= f)
Fails-formed errors.NoMemory r f fails = tt
Fails-formed (errors.Form d) r f fails = ap (λ x. formed x >>= f) fails
