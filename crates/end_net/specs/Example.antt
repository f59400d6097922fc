-- The settings of links that were not opened yet.
use Rattle.mt_base.specs.declared.kinds.Kind.{Kind}
use Rattle.mt_base.specs.declared.kinds.Kind.TheVariants.{Reliable, Lossy}
use Rattle.mt_base.specs.declared.kinds.Role.{Role}
use Rattle.udp_open.specs.declared.settings.OpenSettings.{OpenSettings}
use Rattle.udp_open.specs.OneLink.{one_settings}
use Rattle.lossy_mode.specs.OneLossy.{lossy_settings}

abbrev pub settings_by_hand : Kind → Role → OpenSettings
settings_by_hand Reliable = one_settings
settings_by_hand Lossy = lossy_settings
