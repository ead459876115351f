use Rattle.std.proofs.Common.{◌≡◌, false, true, inl, inr, refl, rules}
use Rattle.iommufd_c.proofs.events.defnulk_raw_user_write.Goals as goal

pub returns-in_default : goal.returns-in_default
returns-in_default c = inr ((λ fits. let e : false ≡ true = c.in_default.ensures.fits.1 fits in cc), refl, refl, refl)

pub returns : goal.returns
returns c = inl (c.in-Some.ensures.fits.0 refl, search rules)
