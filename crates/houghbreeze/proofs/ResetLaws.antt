-- An image of zeros is that of a new scheduler.
use Prim.Native.Nat.{ℕ}
use mathlib.Core.Path.{◌≡◌, sym, ◌∙◌, subst}
use mathlib.Core.List.{List}
use lib.ListN.{replicate}
use Rattle.model.specs.Model.{new_scheduler}
use Rattle.order.specs.Encoding.{encode}
use Rattle.order.proofs.StateLaws.{new_gives}
use Rattle.store.proofs.SiteLaws.{new_law}
use Rattle.image.specs.Image.{image_length, SoundImage}
use Rattle.houghbreeze.specs.Promised.{ResetGives, SiteResetGives}
use Rattle.image.proofs.ImageLaws.{image_sound, new_image}

pub reset_passes : {after : List ℕ} → after ≡ replicate image_length 0 → ResetGives after
reset_passes e =
    record {
      given = encode new_scheduler;
      promise = new_gives;
      image = e ∙ new_image;
      sound = subst SoundImage (sym (e ∙ new_image)) (image_sound (encode new_scheduler) new_gives.sound);
    }

pub site_reset_passes : {after : List ℕ} → after ≡ replicate image_length 0 → SiteResetGives after
site_reset_passes e =
    record {
      given = encode new_scheduler;
      promise = new_law (encode new_scheduler) new_gives;
      image = e ∙ new_image;
      sound = subst SoundImage (sym (e ∙ new_image)) (image_sound (encode new_scheduler) new_gives.sound);
    }
