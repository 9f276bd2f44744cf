pub mod Hotplug
