-- 'Loading replaces the whole suite, and its history is the saved suite's': the image of a suite so reached is read as that suite.
use Rattle.std.specs.Prelude.{◌≡◌}
use Rattle.std.proofs.Common.{sym, ap, ◌∙◌}
use Rattle.suite.specs.Calls.{Result}
use Rattle.suite.specs.declared.Suite.{Suite}
use Rattle.image.specs.Layout.{image_of}
use Rattle.image.specs.Reader.{read_image, loaded}
use Rattle.image.proofs.RoundTrip.{read_written}
use Rattle.history.specs.Directory.{Directory}
use Rattle.history.specs.Run.{Reached}
use Rattle.history.specs.Run as run
use Rattle.history.proofs.Theorems.{reached_sound}

pub image_loads : {s : Suite} {d : Directory} → Reached s d → read_image (image_of s) ≡ loaded s
image_loads {s} p = let r = reached_sound p in read_written s r.0 r.1

-- so whatever a load of a saved image gives is reached, with the plain directory of the saving
pub load_reached : {s : Suite} {d : Directory} → Reached s d → (t : Suite) → read_image (image_of s) ≡ loaded t → Reached t d
load_reached p t e = run.loaded p t (ap (λ (r : Result). r.suite) (sym e ∙ image_loads p))
